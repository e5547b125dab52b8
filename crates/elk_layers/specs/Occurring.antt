-- How often a number stands in a list.
use Rattle.std.specs.Prelude.{ℕ, ◌+◌, ◌≤◌, ◌==◌, cond, List, [], ◌∷◌}

abbrev pub occurs : ℕ → List ℕ → ℕ
occurs n [] = 0
occurs n (m ∷ ms) = cond (m == n) 1 0 + occurs n ms

-- no number stands in the list twice
abbrev pub HasNoRepeat : List ℕ → Type 0
HasNoRepeat names = (n : ℕ) → occurs n names ≤ 1
