-- Marks at the numbers that a list holds.
use Rattle.std.specs.Prelude.{◌≡◌, ℕ, ◌<◌, Bool, false, List, length, slice_index_or}
use Rattle.level_model.specs.Level.{holds}

-- for each number below n, whether a list holds it
pub record AreMarks (numbers : List ℕ) (n : ℕ) (marks : List Bool) : Type 0 where
  pub as_many : length marks ≡ n
  pub each : (k : ℕ) → k < n → slice_index_or marks k false ≡ holds numbers k
