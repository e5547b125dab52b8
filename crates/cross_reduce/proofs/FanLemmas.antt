-- The far ends of each unit's links, as they are gathered.
use Rattle.std.proofs.Common.{◌≡◌, ℕ, zero, suc, List, [], ◌∷◌, get_or, map, refl}
use Rattle.std.specs.List.{All}
use Rattle.std.proofs.lemmas.List.Elements.{All-head, All-tail}

pub empty_at : {R X : Type 0} (items : R → List X) (rs : List R) → All (λ r. items r ≡ []) rs → (u : ℕ) → get_or (map items rs) u [] ≡ []
empty_at items [] all u = refl
empty_at {R} items (r ∷ rs) all zero = All-head (λ (r : R). items r ≡ []) r rs all
empty_at {R} items (r ∷ rs) all (suc u) = empty_at items rs (All-tail (λ (r : R). items r ≡ []) r rs all) u
