-- A list whose elements are changed in place, one after the other: the first ones are, and the others are as they were.
use Rattle.std.proofs.Common.{◌≡◌, inl, inr, ℕ, ◌+◌, ◌<◌, ◌≤◌, List, set, length, get_or, arith, sym, ◌∙◌, ap, subst}
use Rattle.std.proofs.lemmas.Bool.{cases_eq}
use Rattle.std.proofs.lemmas.List.{get_or-set_other, get_or-set_same}

pub each_next : {X : Type 0} (f : X → X) (xs ys : List X) (n : ℕ) (x d : X) → n < length ys → ((k : ℕ) → k < n → get_or ys k d ≡ f (get_or xs k d)) → ((k : ℕ) → n ≤ k → get_or ys k d ≡ get_or xs k d)
    → x ≡ f (get_or ys n d) → (k : ℕ) → k < n + 1 → get_or (set ys n x) k d ≡ f (get_or xs k d)
each_next f xs ys n x d inside each rest is k h = elim (cases_eq k n) [
  | inl e ↦ subst (λ i. get_or (set ys n x) i d ≡ f (get_or xs i d)) (sym e) (get_or-set_same ys n x d inside ∙ is ∙ ap f (rest n (omega arith)))
  | inr ne ↦ get_or-set_other ys n k x d ne ∙ each k (omega (arith, h, ne))
]

pub rest_next : {X : Type 0} (xs ys : List X) (n : ℕ) (x d : X) → ((k : ℕ) → n ≤ k → get_or ys k d ≡ get_or xs k d) → (k : ℕ) → n + 1 ≤ k → get_or (set ys n x) k d ≡ get_or xs k d
rest_next xs ys n x d rest k h = get_or-set_other ys n k x d (λ e. omega (arith, h, e)) ∙ rest k (omega (arith, h))
