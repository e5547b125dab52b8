-- Sums over the numbers of a range that pass a test, and sums over edges as such.
use Rattle.std.proofs.Common.{◌≡◌, ℕ, zero, suc, ◌+◌, ◌*◌, ◌<◌, ◌==◌, eqb, cond, Bool, List, [], ◌∷◌, length, map, get_or, arith, refl, ap, inl, inr, ◌∙◌}
use Rattle.std.specs.List.{filter, range_with_len, sum, sum_by}
use Rattle.std.proofs.lemmas.Bool.{cases_Bool}
use Rattle.std.proofs.lemmas.List.Sums.{sum_by-cons, sum_by-append, sum_by_push}
use Rattle.network_laws.specs.declared.network.NetEdge.{NetEdge}
use Rattle.network_laws.specs.Layering.{at_node, weighed}
use Rattle.network_laws.proofs.Duality.{over_nodes, over_one, over_same, over_sum}
use Rattle.network_parts.proofs.RangeLemmas.{filter_next, range_next}

-- the sum over what passes
pub over_passed : (test : ℕ → Bool) (f : ℕ → ℕ) (n : ℕ) → sum_by f (filter test (range_with_len 0 n)) ≡ over_nodes (λ e. cond (test e) (f e) 0) n
over_passed test f zero = refl
over_passed test f (suc n) =
    let rest = over_passed test f n in
    let split = ap (sum_by f) (filter_next test n) ∙ sum_by-append f (filter test (range_with_len 0 n)) (cond (test n) (n ∷ []) []) in
    let last : sum_by f (cond (test n) (n ∷ []) []) ≡ cond (test n) (f n) 0 = elim (cases_Bool (test n)) [ inl t ↦ rw t (omega arith) | inr u ↦ rw u refl ] in
    omega (arith, rest, split, last)

pub over_range : (f : ℕ → ℕ) (n : ℕ) → sum_by f (range_with_len 0 n) ≡ over_nodes f n
over_range f zero = refl
over_range f (suc n) =
    let rest = over_range f n in
    let last = ap (sum_by f) (range_next n) ∙ sum_by_push f (range_with_len 0 n) n in
    omega (arith, rest, last)

-- each number counts in one part
pub over_parts : (part f : ℕ → ℕ) (n count : ℕ) → ((e : ℕ) → e < n → part e < count) → over_nodes (λ k. over_nodes (λ e. cond (part e == k) (f e) 0) n) count ≡ over_nodes f n
over_parts part f zero count below = none count
  where
    none : (m : ℕ) → over_nodes (λ k. 0) m ≡ 0
    none zero = refl
    none (suc m) = let rest = none m in omega (arith, rest)
over_parts part f (suc n) count below =
    let rest = over_parts part f n count (λ e l. below e (omega (arith, l))) in
    let split = over_sum (λ k. over_nodes (λ e. cond (part e == k) (f e) 0) n) (λ k. cond (part n == k) (f n) 0) count in
    let one = over_one (λ k. 1) (f n) (part n) count (below n (omega arith)) in
    let same = over_same (λ k. cond (eqb (part n) k) (f n) 0 * 1) (λ k. cond (eqb (part n) k) (f n) 0) count (λ k l. omega arith) in
    omega (arith, rest, split, one, same)

pub sum_over : (xs : List ℕ) → sum xs ≡ over_nodes (λ k. get_or xs k 0) (length xs)
sum_over xs = whole xs (length xs)
  where
    shifted : (f : ℕ → ℕ) (n : ℕ) → over_nodes f (suc n) ≡ f 0 + over_nodes (λ k. f (suc k)) n
    shifted f zero = omega arith
    shifted f (suc n) = let rest = shifted f n in omega (arith, rest)

    whole : (xs : List ℕ) (n : ℕ) → sum xs ≡ over_nodes (λ k. get_or xs k 0) (length xs)
    whole [] n = refl
    whole (x ∷ xs) n =
        let first = sum_by-cons (λ y. y) x xs in
        let rest = whole xs n in
        let all = shifted (λ k. get_or (x ∷ xs) k 0) (length xs) in
        omega (arith, first, rest, all)

-- ---- sums over edges, where edges and amounts are those of numbers

pub at_numbers : (end : NetEdge → ℕ) (h : ℕ → NetEdge) (a : ℕ → ℕ) (is : List ℕ) (v : ℕ) → at_node end (map h is) (map a is) v ≡ sum_by (λ e. cond (end (h e) == v) (a e) 0) is
at_numbers end h a [] v = refl
at_numbers end h a (e ∷ es) v =
    let rest = at_numbers end h a es v in
    let first = sum_by-cons (λ k. cond (end (h k) == v) (a k) 0) e es in
    omega (arith, rest, first)

pub weighed_numbers : (g : NetEdge → ℕ) (h : ℕ → NetEdge) (a : ℕ → ℕ) (is : List ℕ) → weighed g (map h is) (map a is) ≡ sum_by (λ e. a e * g (h e)) is
weighed_numbers g h a [] = refl
weighed_numbers g h a (e ∷ es) =
    let rest = weighed_numbers g h a es in
    let first = sum_by-cons (λ k. a k * g (h k)) e es in
    omega (arith, rest, first)

pub sum_numbers : {X : Type 0} (f : X → ℕ) (h : ℕ → X) (is : List ℕ) → sum_by f (map h is) ≡ sum_by (λ e. f (h e)) is
sum_numbers f h [] = refl
sum_numbers f h (e ∷ es) =
    let rest = sum_numbers f h es in
    let one = sum_by-cons f (h e) (map h es) in
    let two = sum_by-cons (λ k. f (h k)) e es in
    omega (arith, rest, one, two)
