-- What lists come to.
use Rattle.std.proofs.Common.{◌≡◌, ℕ, zero, suc, ◌+◌, ◌*◌, ◌<◌, ◌^◌, Bool, List, [], ◌∷◌, ◌++◌, map, length, get_or, ℤ, pos, ◌+ℤ◌, ◌≤ℤ◌, inl, inr, refl, arith}
use Rattle.std.proofs.lemmas.Bool.{cases_Bool}
use Rattle.std.proofs.lemmas.Int.{ints}
use Rattle.std.specs.List.{range_with_len}
use Rattle.drawing_types.specs.declared.shape.Rect.{Rect}
use Rattle.elk_doc.specs.Numbers.{numbers_below, total_below}
use Rattle.port_order.specs.declared.children.Child.{Child}
use Rattle.level_model.specs.Conditions.{sum_of_ints}
use Rattle.rotated_levels.proofs.Sums.{over}

over_append : (f : ℕ → ℤ) (xs ys : List ℕ) → over f (xs ++ ys) ≡ over f xs +ℤ over f ys
over_append f [] ys = omega (arith, ints)
over_append f (x ∷ xs) ys = let rest = over_append f xs ys in omega (arith, ints, rest)

-- the numbers below a bound that pass, in a list or counted through
pub over_numbers : (t : ℕ → Bool) (s : ℕ → ℤ) (m : ℕ) → over s (numbers_below t m) ≡ total_below t s m
unfolding numbers_below total_below
over_numbers t s zero = refl
over_numbers t s (suc m) =
    let before = over_numbers t s m in
    elim (cases_Bool (t m)) [
      | inl e ↦ (let more = over_append s (numbers_below t m) (m ∷ []) in rw e (omega (arith, ints, before, more)))
      | inr e ↦ (let more = over_append s (numbers_below t m) [] in rw e (omega (arith, ints, before, more)))
    ]

-- two sums over one list of parts
pub over_both : (f : ℕ → Child) (a b : Child → ℤ) (s : ℕ → ℤ) (ns : List ℕ) → ((n : ℕ) → (a (f n) +ℤ b (f n)) ≡ s n) → (over a (map f ns) +ℤ over b (map f ns)) ≡ over s ns
over_both f a b s [] h = refl
over_both f a b s (n ∷ ns) h =
    let here = h n in
    let rest = over_both f a b s ns h in
    both (a (f n)) (b (f n)) (s n) (over a (map f ns)) (over b (map f ns)) (over s ns) here rest
  where
    both : (a b s x y t : ℤ) → (a +ℤ b) ≡ s → (x +ℤ y) ≡ t → ((a +ℤ x) +ℤ (b +ℤ y)) ≡ (s +ℤ t)
    both a b s x y t h k = omega (arith, ints, h, k)

pub over_least : (f : Child → ℤ) (cs : List Child) (z : Child) → ((i : ℕ) → i < length cs → pos 0 ≤ℤ f (get_or cs i z)) → pos 0 ≤ℤ over f cs
over_least f [] z h = omega (arith, ints)
over_least f (c ∷ cs) z h =
    let here : pos 0 ≤ℤ f c = h 0 (omega arith) in
    let rest = over_least f cs z (λ i l. h (suc i) (omega (arith, l))) in
    omega (arith, ints, here, rest)

-- rectangles that are each hardly longer than a child
pub sum_most : (f : Rect → ℤ) (g : ℕ → Rect) (h : Child → ℤ) (cs : List Child) (k : ℕ) (z : Child)
    → ((m i : ℕ) → m ≡ k + i → i < length cs → f (g m) ≤ℤ (h (get_or cs i z) +ℤ pos (2 ^ 23)))
    → sum_of_ints (map f (map g (range_with_len k (length cs)))) ≤ℤ (over h cs +ℤ pos (length cs * 2 ^ 23))
sum_most f g h [] k z most = omega (arith, ints)
sum_most f g h (c ∷ cs) k z most =
    let here = most k 0 (omega arith) (omega arith) in
    let rest = sum_most f g h cs (k + 1) z (λ m i e l. most m (suc i) (omega (arith, e)) (omega (arith, l))) in
    both (f (g k)) (h c) (sum_of_ints (map f (map g (range_with_len (k + 1) (length cs))))) (over h cs) (length cs) here rest
  where
    both : (a s b t : ℤ) (n : ℕ) → a ≤ℤ (s +ℤ pos (2 ^ 23)) → b ≤ℤ (t +ℤ pos (n * 2 ^ 23)) → (a +ℤ b) ≤ℤ ((s +ℤ t) +ℤ pos (suc n * 2 ^ 23))
    both a s b t n h k = omega (arith, ints, h, k)
