-- Sums of pins and heights.
use Rattle.std.proofs.Common.{◌≡◌, ◌≢◌, inl, inr, ℕ, zero, suc, ◌+◌, ◌*◌, ◌<◌, ℤ, pos, ◌+ℤ◌, ◌≤ℤ◌, List, [], ◌∷◌, length, refl, sym, ap, subst, arith}
use Rattle.std.proofs.lemmas.Bool.{cases_eq}
use Rattle.std.proofs.lemmas.Int.{ints}
use Rattle.elk_layers.specs.declared.units.Unit.{Unit as LayerUnit}
use Rattle.elk_layers.specs.declared.units.Link.{Link}
use Rattle.elk_layers.specs.Layered.{link_at, total_height, unit_at}
use Rattle.unit_blocks.proofs.SumLemmas.{sum_to}
use Rattle.layer_units.specs.Numbered.{before}
use Rattle.ns_place.specs.Heights.{pins_together}
use Rattle.elk_layers.proofs.HeightLemmas.{total_from_zero}

sum_front : (n : ℕ) (f : ℕ → ℤ) → sum_to (suc n) f ≡ f 0 +ℤ sum_to n (λ k. f (suc k))
sum_front zero f = omega (arith, ints)
sum_front (suc n) f = let rest = sum_front n f in omega (arith, ints, rest)

abbrev pub pins_of : List Link → ℕ → ℤ
pins_of ls k = (link_at ls k).tail_at +ℤ (link_at ls k).head_at

pub pins_added : (ls : List Link) → pins_together ls ≡ sum_to (length ls) (pins_of ls)
pins_added [] = refl
pins_added (l ∷ ls) =
    let rest = pins_added ls in
    let split = sum_front (length ls) (pins_of (l ∷ ls)) in
    omega (arith, ints, rest, split)

pub sum_of_both : (n : ℕ) (f g : ℕ → ℤ) → sum_to n (λ k. f k +ℤ g k) ≡ sum_to n f +ℤ sum_to n g
sum_of_both zero f g = refl
sum_of_both (suc n) f g = let rest = sum_of_both n f g in omega (arith, ints, rest)

-- a sum of which only one number is above 0
pub one_counts : (n d : ℕ) (f : ℕ → ℤ) (a : ℤ) → pos 0 ≤ℤ a → ((i : ℕ) → i < n → i ≢ d → f i ≤ℤ pos 0) → (d < n → f d ≤ℤ a) → sum_to n f ≤ℤ a
one_counts zero d f a least others one = least
one_counts (suc n) d f a least others one =
    elim (cases_eq n d) [
      | inl same ↦
          let rest = one_counts n d f (pos 0) (omega (arith, ints)) (λ i l. others i (omega (arith, l))) (λ l. absurd (omega (arith, l, same))) in
          let last : f n ≤ℤ a = subst (λ m. f m ≤ℤ a) (sym same) (one (omega (arith, same))) in
          omega (arith, ints, rest, last)
      | inr other ↦
          let rest = one_counts n d f a least (λ i l. others i (omega (arith, l))) (λ l. one (omega (arith, l))) in
          let last = others n (omega arith) other in
          omega (arith, ints, rest, last)
    ]

sum_behind : (a n : ℕ) (f : ℕ → ℤ) → sum_to (a + n) f ≡ sum_to a f +ℤ sum_to n (λ i. f (a + i))
sum_behind a zero f = let none : a + 0 ≡ a = omega arith in rw none (omega (arith, ints))
sum_behind a (suc n) f =
    let rest = sum_behind a n f in
    let next : a + suc n ≡ suc (a + n) = omega arith in
    rw next (omega (arith, ints, rest))

-- groups of numbers, none of which has a large sum
pub groups_small : (count : ℕ → ℕ) (f : ℕ → ℤ) (h n : ℕ) → ((e : ℕ) → e < n → sum_to (count e) (λ i. f (before count e + i)) ≤ℤ pos h) → sum_to (before count n) f ≤ℤ pos (n * h)
unfolding before
groups_small count f h zero small = omega (arith, ints)
groups_small count f h (suc n) small =
    let rest = groups_small count f h n (λ e l. small e (omega (arith, l))) in
    let last = small n (omega arith) in
    let split = sum_behind (before count n) (count n) f in
    let more : suc n * h ≡ n * h + h = omega arith in
    rw more (omega (arith, ints, rest, last, split))

-- ---- heights of two units

one_within : (us : List LayerUnit) (u : ℕ) → u < length us → ((w : ℕ) → w < length us → pos 0 ≤ℤ (unit_at us w).height) → (unit_at us u).height ≤ℤ total_height us
one_within [] u l h = absurd (omega (arith, l))
one_within (x ∷ us) zero l h = let rest = total_from_zero us (λ w k. h (suc w) (omega (arith, k))) in omega (arith, ints, rest)
one_within (x ∷ us) (suc u) l h =
    let here = h 0 (omega arith) in
    let rest = one_within us u (omega (arith, l)) (λ w k. h (suc w) (omega (arith, k))) in
    omega (arith, ints, here, rest)

pub two_within : (us : List LayerUnit) (u w : ℕ) → u < length us → w < length us → u ≢ w → ((x : ℕ) → x < length us → pos 0 ≤ℤ (unit_at us x).height)
    → ((unit_at us u).height +ℤ (unit_at us w).height) ≤ℤ total_height us
two_within [] u w l k other h = absurd (omega (arith, l))
two_within (x ∷ us) zero zero l k other h = absurd (other refl)
two_within (x ∷ us) zero (suc w) l k other h = let rest = one_within us w (omega (arith, k)) (λ y m. h (suc y) (omega (arith, m))) in omega (arith, ints, rest)
two_within (x ∷ us) (suc u) zero l k other h = let rest = one_within us u (omega (arith, l)) (λ y m. h (suc y) (omega (arith, m))) in omega (arith, ints, rest)
two_within (x ∷ us) (suc u) (suc w) l k other h =
    let here = h 0 (omega arith) in
    let rest = two_within us u w (omega (arith, l)) (omega (arith, k)) (λ e. other (ap suc e)) (λ y m. h (suc y) (omega (arith, m))) in
    omega (arith, ints, here, rest)
