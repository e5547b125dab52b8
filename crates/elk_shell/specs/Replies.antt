-- Replies, one a line.
use Rattle.std.specs.Prelude.{◌≡◌, ℕ, List, [], ◌∷◌, ◌++◌, Option}
use Rattle.std.specs.Io.KnownBytes.{Appends}
use Rattle.elk_write.specs.Text.{IsOneLine}

-- the text is these lines, in order
abbrev pub AreLines : List (List ℕ) → List ℕ → Type 0
AreLines [] text = text ≡ []
AreLines (line ∷ lines) text = (rest : List ℕ) × (text ≡ line ++ rest) × IsOneLine line × AreLines lines rest

-- the text is lines, each with its line feed
abbrev pub IsInLines : List ℕ → Type 0
IsInLines text = (lines : List (List ℕ)) × AreLines lines text

-- what a sink has taken grew by lines
abbrev pub GrowsByLines : Option (List ℕ) → Option (List ℕ) → Type 0
GrowsByLines old new = (text : List ℕ) × IsInLines text × Appends old new text
