-- The text that is written.
use Rattle.std.specs.Prelude.{◌≡◌, ℕ, ◌+◌, ◌==◌, cond, List, [], ◌∷◌, ◌++◌}
use Rattle.std.specs.Fmt.{signed_decimal}
use Rattle.std.specs.Ordering.{nat_cmp}
use Rattle.std.specs.Cmp.Lexicographic.{slice_cmp}
use Rattle.std.specs.declared.cmp.Ordering.TheVariants.{Less}
use Rattle.json.specs.Json as json
use Rattle.json.specs.Lex.{tokens}
use Rattle.json.specs.Print.{quoted}
use Rattle.json.specs.Tree.{json_tokens}
use Rattle.serde_json.specs.Data.{Data}
use Rattle.serde_json.specs.Written.{compact_text}
use Rattle.elk_doc.specs.declared.document.Id.{Id}
use Rattle.elk_doc.specs.declared.document.Id.TheVariants.{Text, Whole}

-- the compact text of a value, and a line feed
abbrev pub text : Data → List ℕ
text d = compact_text d ++ 10 ∷ []

-- an id as JSON text: a text in quotes, a number in decimal
abbrev pub id_spelling : Id → List ℕ
id_spelling (Text s) = quoted s
id_spelling (Whole z) = signed_decimal z

-- ---- one line

-- how many line feeds the bytes have
abbrev pub line_feeds : List ℕ → ℕ
line_feeds [] = 0
line_feeds (b ∷ bs) = cond (b == 10) 1 0 + line_feeds bs

-- the bytes are one line: its only line feed is the last byte
pub record IsOneLine (bytes : List ℕ) : Type 0 where
  pub line : List ℕ
  pub none_before : line_feeds line ≡ 0
  pub ended : bytes ≡ line ++ 10 ∷ []

-- ---- ascending keys

-- the key is below each key of the members
abbrev pub IsBelowKeys : List ℕ → json.Members → Type 0
IsBelowKeys k json.no_members = Unit {0}
IsBelowKeys k (json.member l j ms) = (slice_cmp nat_cmp k l ≡ Less) × IsBelowKeys k ms

-- the keys of each object ascend, as they stand in the JSON
abbrev mutual
  pub DoKeysAscend : json.Json → Type 0
  DoKeysAscend json.null = Unit {0}
  DoKeysAscend (json.boolean b) = Unit {0}
  DoKeysAscend (json.number s) = Unit {0}
  DoKeysAscend (json.string s) = Unit {0}
  DoKeysAscend (json.array js) = DoItemsAscend js
  DoKeysAscend (json.object ms) = DoMembersAscend ms

  pub DoItemsAscend : json.Items → Type 0
  DoItemsAscend json.no_items = Unit {0}
  DoItemsAscend (json.item j js) = DoKeysAscend j × DoItemsAscend js

  pub DoMembersAscend : json.Members → Type 0
  DoMembersAscend json.no_members = Unit {0}
  DoMembersAscend (json.member k j ms) = IsBelowKeys k ms × DoKeysAscend j × DoMembersAscend ms

-- the text is JSON in which the keys of each object ascend
pub record HasAscendingKeys (text : List ℕ) : Type 0 where
  pub tree : json.Json
  pub spells : tokens text ≡ json_tokens tree
  pub ascending : DoKeysAscend tree
