-- Sums of whole numbers over the numbers below a count.
use Rattle.std.proofs.Common.{◌≡◌, ℕ, zero, suc, ◌*◌, ◌<◌, ◌^◌, ℤ, pos, ◌+ℤ◌, ◌≤ℤ◌, List, [], ◌∷◌, length, arith, refl, subst, inl, inr}
use Rattle.std.proofs.lemmas.Int.{ints}
use Rattle.std.proofs.lemmas.Bool.{cases_eq}
use Rattle.elk_layers.specs.declared.units.Unit.{Unit as LayerUnit}
use Rattle.elk_layers.specs.Layered.{unit_at, total_height}
use Rattle.unit_blocks.specs.Constraints.{stacked_height}

abbrev pub sum_to : ℕ → (ℕ → ℤ) → ℤ
sum_to zero f = pos 0
sum_to (suc n) f = sum_to n f +ℤ f n

pub sum_join : (n : ℕ) (f g k : ℕ → ℤ) → ((w : ℕ) → w < n → (f w +ℤ g w) ≤ℤ k w) → (sum_to n f +ℤ sum_to n g) ≤ℤ sum_to n k
sum_join zero f g k h = omega (arith, ints)
sum_join (suc n) f g k h =
    let rest = sum_join n f g k (λ w l. h w (omega (arith, l))) in
    let last = h n (omega arith) in
    omega (arith, ints, rest, last)

-- where one term gains more, the sum does
pub sum_gain : (n : ℕ) (f g k : ℕ → ℤ) (u : ℕ) (c : ℤ) → u < n → ((w : ℕ) → w < n → (f w +ℤ g w) ≤ℤ k w) → (f u +ℤ g u +ℤ c) ≤ℤ k u → (sum_to n f +ℤ sum_to n g +ℤ c) ≤ℤ sum_to n k
sum_gain zero f g k u c l h more = absurd (omega (arith, l))
sum_gain (suc n) f g k u c l h more = elim (cases_eq u n) [
  | inl e ↦
      let rest = sum_join n f g k (λ w q. h w (omega (arith, q))) in
      let last : (f n +ℤ g n +ℤ c) ≤ℤ k n = subst (λ x. (f x +ℤ g x +ℤ c) ≤ℤ k x) e more in
      omega (arith, ints, rest, last)
  | inr ne ↦
      let rest = sum_gain n f g k u c (omega (arith, l, ne)) (λ w q. h w (omega (arith, q))) more in
      let last = h n (omega arith) in
      omega (arith, ints, rest, last)
]

pub sum_nothing : (n : ℕ) → sum_to n (λ w. pos 0) ≡ pos 0
sum_nothing zero = refl
sum_nothing (suc n) = let h = sum_nothing n in omega (arith, ints, h)

pub sum_below : (n : ℕ) (f g : ℕ → ℤ) → ((w : ℕ) → w < n → f w ≤ℤ g w) → sum_to n f ≤ℤ sum_to n g
sum_below zero f g h = omega (arith, ints)
sum_below (suc n) f g h =
    let rest = sum_below n f g (λ w l. h w (omega (arith, l))) in
    let last = h n (omega arith) in
    omega (arith, ints, rest, last)

sum_shift : (n : ℕ) (f : ℕ → ℤ) → sum_to (suc n) f ≡ f 0 +ℤ sum_to n (λ w. f (suc w))
sum_shift zero f = omega (arith, ints)
sum_shift (suc n) f = let h = sum_shift n f in omega (arith, ints, h)

pub sum_heights : (units : List LayerUnit) → sum_to (length units) (λ w. (unit_at units w).height) ≡ total_height units
sum_heights [] = refl
sum_heights (u ∷ units) =
    let rest = sum_heights units in
    let split = sum_shift (length units) (λ w. (unit_at (u ∷ units) w).height) in
    omega (arith, ints, rest, split)

pub sum_stacked : (s : ℤ) (units : List LayerUnit) → sum_to (length units) (λ w. (unit_at units w).height +ℤ s) ≡ stacked_height s units
sum_stacked s [] = refl
sum_stacked s (u ∷ units) =
    let rest = sum_stacked s units in
    let split = sum_shift (length units) (λ w. (unit_at (u ∷ units) w).height +ℤ s) in
    omega (arith, ints, rest, split)

pub stacked_bound : (s : ℤ) (units : List LayerUnit) → s ≤ℤ pos (2 ^ 20) → stacked_height s units ≤ℤ (total_height units +ℤ pos (length units * 1048576))
stacked_bound s [] h = omega (arith, ints)
stacked_bound s (u ∷ units) h =
    let rest = stacked_bound s units h in
    omega (arith, ints, rest, h)
