-- A text that a value was written as is read as that value also where a line feed follows it.
use Rattle.std.proofs.Common.{◌≡◌, ℕ, ◌≤◌, Bool, true, false, cond, ◌&&◌, List, [], ◌∷◌, ◌++◌, Some, option_and_then, if◌then◌else◌, None, refl, sym, ap, ap₂, ◌∙◌, subst, append_assoc, append-nil}
use Rattle.std.specs.Str.{IsUtf8, is_utf8}
use Rattle.std.proofs.lemmas.Str.{IsUtf8-append, is_utf8-from_IsUtf8}
use Rattle.json.specs.Token.{Token, begin_object, key, string, number, boolean, null, bad}
use Rattle.json.specs.Word.{ends_word, word}
use Rattle.json.specs.Lex.{Lexeme, token, comma, colon, string_token, lex, between, fresh, punctuate, tokens}
use Rattle.json.specs.Print.{escape, quoted, token_text, begins, ends, print_from, print, IsPrintable, ArePrintable, ArePrintableOrBad}
use Rattle.json.specs.Json as json
use Rattle.json.specs.Tree.{json_tokens, items_tokens, members_tokens, HasNumbers, ItemsHaveNumbers, MembersHaveNumbers}
use Rattle.json.proofs.Printed.Strings.{content-escape, lex-escape}
use Rattle.json.proofs.Printed.Numbers.{lex-number, in_word-ended}
use Rattle.json.proofs.Printed.Trees.{ArePrintable-json_tokens}
use Rattle.json.proofs.Printed.Utf8.{IsUtf8-are_ascii}
use Rattle.json.proofs.Numbered.{ArePrintableOrBad-tokens}
use Rattle.serde_json.specs.Data.{Data, depth}
use Rattle.serde_json.specs.Read.{read, of_json, max_depth}
use Rattle.serde_json.specs.Written.{IsInOrder}
use Rattle.serde_json.proofs.Nesting.{depth-read}
use Rattle.elk_json.specs.Bytes.{reading}

-- ---- the tokens of a text can be printed

mutual
  numbers_of : (j : json.Json) (rest : List Token) → ArePrintableOrBad (json_tokens j ++ rest) → HasNumbers j × ArePrintableOrBad rest
  numbers_of (json.number s) rest h = h
  numbers_of (json.array js) rest h = items_numbers js rest h.1
  numbers_of (json.object ms) rest h = members_numbers ms rest h.1
  numbers_of j rest h = (tt, h.1)

  items_numbers : (js : json.Items) (rest : List Token) → ArePrintableOrBad (items_tokens js ++ rest) → ItemsHaveNumbers js × ArePrintableOrBad rest
  items_numbers json.no_items rest h = (tt, h.1)
  items_numbers (json.item j js) rest h =
      let a = numbers_of j (items_tokens js ++ rest) (subst ArePrintableOrBad (append_assoc (json_tokens j) (items_tokens js) rest) h) in
      let b = items_numbers js rest a.1 in ((a.0, b.0), b.1)

  members_numbers : (ms : json.Members) (rest : List Token) → ArePrintableOrBad (members_tokens ms ++ rest) → MembersHaveNumbers ms × ArePrintableOrBad rest
  members_numbers json.no_members rest h = (tt, h.1)
  members_numbers (json.member k j ms) rest h =
      let a = numbers_of j (members_tokens ms ++ rest) (subst ArePrintableOrBad (append_assoc (json_tokens j) (members_tokens ms) rest) h.1) in
      let b = members_numbers ms rest a.1 in ((a.0, b.0), b.1)

printable : (text : List ℕ) (j : json.Json) → tokens text ≡ json_tokens j → ArePrintable (tokens text)
printable text j is =
    subst ArePrintable (sym is)
    (ArePrintable-json_tokens j (numbers_of j [] (subst ArePrintableOrBad (is ∙ sym (append-nil (json_tokens j))) (ArePrintableOrBad-tokens text))).0)

-- ---- the lexer passes a printed text in the same way, whatever ends it

-- the lexer gives these lexemes for the text and goes on behind it
abbrev Passes : List ℕ → List Lexeme → Type 0
Passes text ls = (rest : List ℕ) → ends_word rest ≡ true → lex between (text ++ rest) ≡ ls ++ lex between rest

passes_quoted : (s rest : List ℕ) → lex between (quoted s ++ rest) ≡ token (string s) ∷ lex between rest
unfolding lex
passes_quoted s rest =
    ap (λ l. lex between (34 ∷ l)) (append_assoc (escape s) (34 ∷ []) rest)
    ∙ ap₂ (λ o l. token (string_token o) ∷ l) (content-escape s rest) (lex-escape s rest)

token_passes : (t : Token) → IsPrintable t → (ls : List Lexeme) × ((rest : List ℕ) → (ends t ≡ true → ends_word rest ≡ true) → lex between (token_text t ++ rest) ≡ ls ++ lex between rest)
unfolding lex word
token_passes (key s) h = (token (string s) ∷ colon ∷ [], λ rest ended. ap (lex between) (append_assoc (quoted s) (58 ∷ []) rest) ∙ passes_quoted s (58 ∷ rest))
token_passes (string s) h = (token (string s) ∷ [], λ rest ended. passes_quoted s rest)
token_passes (number s) h = (token (number s) ∷ [], λ rest ended. lex-number s rest h (ended refl))
token_passes (boolean true) h = (token (boolean true) ∷ [], λ rest ended. ap₂ (λ b l. token (cond b (boolean true) bad) ∷ l) (ended refl) (in_word-ended rest (ended refl)))
token_passes (boolean false) h = (token (boolean false) ∷ [], λ rest ended. ap₂ (λ b l. token (cond b (boolean false) bad) ∷ l) (ended refl) (in_word-ended rest (ended refl)))
token_passes null h = (token null ∷ [], λ rest ended. ap₂ (λ b l. token (cond b null bad) ∷ l) (ended refl) (in_word-ended rest (ended refl)))
token_passes bad h = absurd h
token_passes t h = (token t ∷ [], λ rest ended. refl)

-- after a value stands a comma, a closing bracket or what ends the text
ends_there : (ts : List Token) (rest : List ℕ) → ends_word rest ≡ true → ends_word (print_from true ts ++ rest) ≡ true
unfolding print_from
ends_there [] rest h = h
ends_there (begin_object ∷ ts) rest h = refl
ends_there ts rest h = refl

comma_passes : (b : Bool) (rest : List ℕ) → lex between (cond b (44 ∷ []) [] ++ rest) ≡ cond b (comma ∷ []) [] ++ lex between rest
unfolding lex
comma_passes true rest = refl
comma_passes false rest = refl

print_passes : (after : Bool) (ts : List Token) → ArePrintable ts → (ls : List Lexeme) × Passes (print_from after ts) ls
unfolding print_from ArePrintable
print_passes after [] h = ([], λ rest ended. refl)
print_passes after (t ∷ ts) h =
    let one = token_passes t h.0 in
    let more = print_passes (ends t) ts h.1 in
    let before = cond (after && begins t) (44 ∷ []) [] in
    let first = cond (after && begins t) (comma ∷ []) [] in
    let text = print_from (ends t) ts in (
      first ++ (one.0 ++ more.0),
      λ rest ended.
          ap (lex between) (append_assoc before (token_text t ++ text) rest ∙ ap (λ l. before ++ l) (append_assoc (token_text t) text rest))
          ∙ comma_passes (after && begins t) (token_text t ++ (text ++ rest))
          ∙ ap (λ l. first ++ l)
          (one.1 (text ++ rest) (λ e. ap (λ b. ends_word (print_from b ts ++ rest)) e ∙ ends_there ts rest ended)
          ∙ ap (λ l. one.0 ++ l) (more.1 rest ended) ∙ sym (append_assoc one.0 more.0 (lex between rest)))
          ∙ sym (append_assoc first (one.0 ++ more.0) (lex between rest)),
    )

tokens_before : (ts : List Token) → ArePrintable ts → tokens (print ts ++ 10 ∷ []) ≡ tokens (print ts)
unfolding lex
tokens_before ts h =
    let p = print_passes false ts h in
    ap (punctuate fresh) (p.1 (10 ∷ []) refl ∙ sym (p.1 [] refl) ∙ ap (lex between) (append-nil (print ts)))

-- ---- what the text is read as

pub same_tokens : (text : List ℕ) (d : Data) → IsInOrder text d → text ≡ print (tokens text) → tokens (text ++ 10 ∷ []) ≡ tokens text
same_tokens text d order compact =
    ap (λ l. tokens (l ++ 10 ∷ [])) compact ∙ tokens_before (tokens text) (printable text order.0 order.1) ∙ ap tokens (sym compact)

-- a written text with a line feed is read as what the text alone is read as
pub read_with_feed : (text : List ℕ) (d : Data) → IsUtf8 text → IsInOrder text d → text ≡ print (tokens text) → read text ≡ Some d → reading (text ++ 10 ∷ []) ≡ Some d
read_with_feed text d utf8 order compact is =
    ap (λ b. if b then read (text ++ 10 ∷ []) else None) (is_utf8-from_IsUtf8 (text ++ 10 ∷ []) (IsUtf8-append text (10 ∷ []) utf8 (IsUtf8-are_ascii (10 ∷ []) refl)))
    ∙ ap (λ ts. option_and_then of_json (option_and_then (λ p. json.if_last p.0 p.1) (json.value max_depth ts))) (same_tokens text d order compact)
    ∙ is

-- ---- what is read nests no deeper than a text may

read_nests : (b : Bool) (bytes : List ℕ) (d : Data) → (if b then read bytes else None) ≡ Some d → depth d ≤ max_depth
read_nests true bytes d is = depth-read bytes d is
read_nests false bytes d is = absurd (cc)

pub reading_nests : (bytes : List ℕ) (d : Data) → reading bytes ≡ Some d → depth d ≤ max_depth
reading_nests bytes d is = read_nests (is_utf8 bytes) bytes d is
