-- The first line of bytes, and what each answer says of it.
use Rattle.std.specs.Prelude.{◌≡◌, ◌≢◌, ℕ, Bool, true, false, ◌<◌, ◌≤◌, List, [], ◌∷◌, ◌++◌, length, Option, Some, Result, Ok, Err, IsErrOf}
use Rattle.std.specs.Io.KnownBytes.{IsAtEnd}
use Rattle.elk_outer.specs.Causes.{Rose}
use Rattle.elk_lines.specs.Reader.{HasNoFeed}
use Rattle.elk_lines.specs.declared.answer.Piece.{Piece}
use Rattle.elk_lines.specs.declared.answer.Piece.TheVariants.{Line, Long, End}
use Rattle.elk_lines.specs.declared.answer.LineFault.{LineFault}
use Rattle.elk_lines.specs.declared.answer.LineFault.TheVariants.{Fault, TooLong, Memory}

-- The bytes are a line, its line feed and the rest; or the source has ended, and they are a line to its end, with no
-- line feed and at least one byte.
abbrev pub IsParted : List ℕ → List ℕ → List ℕ → Option (List ℕ) → Bool → Type 0
IsParted bytes line rest left false = bytes ≡ line ++ 10 ∷ rest
IsParted bytes line rest left true = (bytes ≡ line) × (rest ≡ []) × (line ≢ []) × IsAtEnd left

-- the first line of the bytes, and what comes after it
pub record IsFirstLine (bytes line rest : List ℕ) (left : Option (List ℕ)) (ended : Bool) : Type 0 where
  pub no_feed : HasNoFeed line
  pub parted : IsParted bytes line rest left ended

-- the last of the bytes comes after all others, of which none is a line feed
pub record IsOnePast (bytes : List ℕ) : Type 0 where
  pub front : List ℕ
  pub last : ℕ
  pub parted : bytes ≡ front ++ last ∷ []
  pub no_feed : HasNoFeed front

-- What a reader answers, where these bytes were taken and not given out before the answer, and `rest` of them are
-- still held after it; `told` is the line that it tells then, and `ended` whether the source has said that it ended.
abbrev pub IsAnswer : ℕ → List ℕ → List ℕ → Option (List ℕ) → Option (List ℕ) → Bool → Result Piece LineFault → Type 0
IsAnswer longest bytes rest told left ended (Ok Line) =
    (line : List ℕ) × IsFirstLine bytes line rest left ended × (length line ≤ longest) × (told ≡ Some line)
IsAnswer longest bytes rest told left ended (Ok Long) = (line : List ℕ) × IsFirstLine bytes line rest left ended × (longest < length line)
IsAnswer longest bytes rest told left ended (Ok End) = (bytes ≡ []) × (rest ≡ []) × IsAtEnd left × (ended ≡ true)
IsAnswer longest bytes rest told left ended (Err Fault) = HasNoFeed bytes
IsAnswer longest bytes rest told left ended (Err TooLong) = IsOnePast bytes
IsAnswer longest bytes rest told left ended (Err Memory) = Unit {0}

-- the count of faults never falls, and `Fault` comes only where it rose
pub record HasLineCause {T : Type 0} (before now : ℕ) (result : Result T LineFault) : Type 0 where
  pub later : before ≤ now
  pub failed : IsErrOf result Fault → Rose before now
