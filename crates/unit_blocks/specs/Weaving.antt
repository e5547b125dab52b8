-- A row of names woven into a list of names, so that both keep their order.
use Rattle.std.specs.Prelude.{◌≡◌, ℕ, ◌≤◌, ◌==◌, cond, List, [], ◌∷◌, ◌++◌, Bool, true, ◌⊎◌, ⊤}
use Rattle.std.specs.List.{filter}
use Rattle.elk_layers.specs.Occurring.{occurs, HasNoRepeat}

-- the first list is what is left of the second without some of its elements
abbrev pub IsSublist : List ℕ → List ℕ → Type 0
IsSublist [] ys = ⊤
IsSublist (x ∷ xs) [] = ⊥
IsSublist (x ∷ xs) (y ∷ ys) = ((x ≡ y) × IsSublist xs ys) ⊎ IsSublist (x ∷ xs) ys

-- what stands before a name, and what stands after it
abbrev pub until : ℕ → List ℕ → List ℕ
until n [] = []
until n (m ∷ ms) = cond (m == n) [] (m ∷ until n ms)

abbrev pub past : ℕ → List ℕ → List ℕ
past n [] = []
past n (m ∷ ms) = cond (m == n) ms (past n ms)

-- the row's known names stand in the list; each other name is put right after its predecessor in the row,
-- or first
abbrev pub woven : (ℕ → Bool) → List ℕ → List ℕ → List ℕ
woven known names [] = names
woven known names (n ∷ row) =
    cond (known n) (until n names ++ n ∷ woven known (past n names) row) (n ∷ woven known names row)

-- the row's known names stand in the list in the row's order, and the list has no other names
pub record CanWeave (known : ℕ → Bool) (names row : List ℕ) : Type 0 where
  pub in_order : IsSublist (filter known row) names
  pub all_known : (n : ℕ) → 1 ≤ occurs n names → known n ≡ true

-- weaving keeps both orders and repeats no name
pub record Weaves (known : ℕ → Bool) (names row : List ℕ) : Type 0 where
  pub names_kept : IsSublist names (woven known names row)
  pub row_kept : IsSublist row (woven known names row)
  pub no_repeat : HasNoRepeat names → HasNoRepeat row → HasNoRepeat (woven known names row)

abbrev pub WeavingIsSound : Type 0
WeavingIsSound = (known : ℕ → Bool) (names row : List ℕ) → CanWeave known names row → Weaves known names row
