-- What a contract sees of a reader of lines.
use Rattle.std.specs.Prelude.{ℕ, ◌≢◌, Bool, List, All, Option}

-- the bytes that it took and did not give out; the line that it told last, if its last answer was one; how many
-- bytes it took in all; the most bytes of a line, and of all lines; whether it has failed; whether its last answer came
-- from what the source had to its end; how many bytes it keeps, of a line and of what was read last
pub record Reader : Type 0 where
  pub held : List ℕ
  pub line : Option (List ℕ)
  pub taken : ℕ
  pub longest : ℕ
  pub limit : ℕ
  pub spent : Bool
  pub ended : Bool
  pub kept : ℕ

-- none of the bytes is a line feed
abbrev pub HasNoFeed : List ℕ → Type 0
HasNoFeed bytes = All (λ b. b ≢ 10) bytes
