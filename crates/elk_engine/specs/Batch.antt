-- What `batch` writes: one reply a line.
use Rattle.std.specs.Prelude.{◌≡◌, ◌⊎◌, ℕ, ◌^◌, ◌<◌, ◌≤◌, List, [], ◌∷◌, ◌++◌, length, All, Option}
use Rattle.std.specs.Io.KnownBytes.{Appends, Consumes}
use Rattle.elk_json.specs.declared.fault.Refusal.{Refusal}
use Rattle.elk_lines.specs.Reader.{HasNoFeed}
use Rattle.elk_write.specs.Text.{IsOneLine, line_feeds}
use Rattle.elk_answer.specs.Answer as answer
use Rattle.elk_engine.specs.Notes.{refused_note, too_long_note}

-- the most bytes of a line
abbrev pub longest : ℕ
longest = 2 ^ 24

-- The reply to a line of no more bytes than that: the text of its answer where it is accepted, or the line of its refusal.
unfoldable pub IsShortReply : List ℕ → List ℕ → Type 0
IsShortReply line reply =
    (answer.IsAccepted line × answer.IsAnswer line reply) ⊎ ((r : Refusal) × answer.Refuses line r × (reply ≡ refused_note r))

-- the reply to a line, which is one line too
unfoldable pub IsReply : List ℕ → List ℕ → Type 0
IsReply line reply =
    IsOneLine reply × (((longest < length line) × (reply ≡ too_long_note)) ⊎ ((length line ≤ longest) × IsShortReply line reply))

-- the text is the replies to the lines, in order
abbrev pub AreReplies : List (List ℕ) → List ℕ → Type 0
AreReplies [] text = text ≡ []
AreReplies (line ∷ lines) text = (reply : List ℕ) × (rest : List ℕ) × (text ≡ reply ++ rest) × IsReply line reply × AreReplies lines rest

-- ---- the lines of bytes

-- the lines, each with its line feed
abbrev pub fed : List (List ℕ) → List ℕ
fed [] = []
fed (line ∷ lines) = line ++ 10 ∷ fed lines

-- The bytes are parted at their line feeds: these lines end with one, and the last bytes come after all of them.
pub record AreParted (bytes : List ℕ) (lines : List (List ℕ)) (last : List ℕ) : Type 0 where
  pub no_feeds : All HasNoFeed lines
  pub none_after : HasNoFeed last
  pub parted : bytes ≡ fed lines ++ last

-- what comes after the last line feed is a line where it isn't empty
abbrev pub with_last : List (List ℕ) → List ℕ → List (List ℕ)
with_last lines [] = lines
with_last lines (b ∷ bs) = lines ++ (b ∷ bs) ∷ []

-- ---- replies to bytes

-- the text is the replies to all lines of the bytes
abbrev pub AreAllReplies : List ℕ → List ℕ → Type 0
AreAllReplies bytes text = (lines : List (List ℕ)) × (last : List ℕ) × AreParted bytes lines last × AreReplies (with_last lines last) text

-- the text is the replies to those lines of the bytes that end with a line feed
abbrev pub AreFedReplies : List ℕ → List ℕ → Type 0
AreFedReplies bytes text = (lines : List (List ℕ)) × (last : List ℕ) × AreParted bytes lines last × AreReplies lines text

-- These bytes were taken, and the replies to all their lines were written: as many line feeds as there are lines.
pub record GainsLines (before left out new_out : Option (List ℕ)) : Type 0 where
  pub bytes : List ℕ
  pub text : List ℕ
  pub lines : List (List ℕ)
  pub last : List ℕ
  pub consumed : Consumes before left bytes
  pub parted : AreParted bytes lines last
  pub replies : AreReplies (with_last lines last) text
  pub gained : Appends out new_out text
  pub as_many : line_feeds text ≡ length (with_last lines last)
