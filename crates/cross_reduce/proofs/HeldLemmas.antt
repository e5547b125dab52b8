-- Rows in which some units are held: before and after an exchange, and filled from a list in order.
use Rattle.std.proofs.Common.{◌≡◌, ◌<◌, ◌≤◌, ◌+◌, ◌⊎◌, ◌&&◌, ◌<ℤ◌, ℕ, zero, suc, ℤ, Option, List, [], ◌∷◌, length, map, get_or, set, Bool, true, false, cond, IsTrue, IsFalse, refl, arith, sym, ap, subst, inl, inr}
use Rattle.std.proofs.lemmas.Bool.{cases_eq, cases_lt, lt-ltb, both_ways}
use Rattle.std.specs.List.{All, filter, swap}
use Rattle.std.specs.List.Sorted.{IsPermutation, IsSortedByKey}
use Rattle.std.proofs.lemmas.Cmp.{int_cmp_total, nat_cmp_total, on_total, then_total}
use Rattle.std.specs.declared.cmp.Ordering.{Ordering}
use Rattle.std.specs.declared.cmp.Ordering.TheVariants.{Less, Equal, Greater}
use Rattle.std.specs.Ordering.{is_lt, int_cmp, nat_cmp, ordering_then, MatchOrdering}
use Rattle.std.specs.Cmp.{int_ranks}
use Rattle.std.proofs.lemmas.List.{get_or-map, get_or-set_same, get_or-set_other, length-set, length-map}
use Rattle.std.proofs.lemmas.List.Edits.{swap_is}
use Rattle.std.proofs.lemmas.List.Elements.{All-nil, All-cons, All-head, All-tail, All-map, All-get_or, All-from_get_or}
use Rattle.std.proofs.lemmas.List.Sorted.{IsPermutation-swap, IsPermutation-map, All-permutation, sorted_far, ranks_by}
use Rattle.elk_layers.specs.Layered.{Plain, row_at}
use Rattle.elk_layers.specs.Crossings.{exchanged, NoBetterSwap}
use Rattle.elk_layers.specs.Sweeps.{refilled}
use Rattle.cross_reduce.specs.declared.holding.HeldUnit.{HeldUnit}
use Rattle.cross_reduce.specs.Exchanges.{NoneInRow}
use Rattle.cross_reduce.specs.Held.{is_held, key_of, GoesBefore, IsHeldRow, AreHeldRows, are_both_held, NoBetterFreeSwap, IsNoneHeld, NoneFreeInRow}
use Rattle.cross_reduce.specs.HeldRows.{held_unit, held_units, numbers_of}
use Rattle.cross_reduce.proofs.SweepLemmas.{refilled_none}

-- ---- no unit is held

pub none_both : (held : List (Option ℤ)) (row : List ℕ) (i : ℕ) → IsNoneHeld held → IsFalse (are_both_held held row i)
none_both held row i none = rw (none (get_or row i 0)) refl

-- the test of the code is that of the row
pub both_read : (held : List (Option ℤ)) (row : List ℕ) (i u v : ℕ) (b : Bool) → u ≡ get_or row i 0 → v ≡ get_or row (i + 1) 0 → b ≡ (is_held held u && is_held held v) → b ≡ are_both_held held row i
both_read held row i u v b upper lower is = rw (sym upper, sym lower) is

pub none_in_row : (l : Plain) (held : List (Option ℤ)) (rows : List (List ℕ)) (r : ℕ) → IsNoneHeld held → NoneFreeInRow l held rows r → NoneInRow l rows r
none_in_row l held rows r none free i h = free i h (none_both held (row_at rows r) i none)

pub none_better : (l : Plain) (held : List (Option ℤ)) (rows : List (List ℕ)) → IsNoneHeld held → NoBetterFreeSwap l held rows → NoBetterSwap l rows
none_better l held rows none free r i hr hi = free r i hr hi (none_both held (row_at rows r) i none)

pub not_held : (held : List (Option ℤ)) → held ≡ [] → IsNoneHeld held
not_held held e u = rw e refl

-- ---- after an exchange

-- what a held unit asks of the units below it
abbrev pub IsBelow : List (Option ℤ) → ℕ → ℕ → Type 0
IsBelow held u v = IsTrue (is_held held v) → GoesBefore held u v

not_two : (a b : Bool) → (a && b) ≡ false → a ≡ true → b ≡ true → ⊥
not_two true true f s t = both_ways true f s
not_two true false f s t = both_ways false refl t
not_two false b f s t = both_ways false refl s

swap_next : (x : ℕ) (row : List ℕ) (i : ℕ) → i + 1 < length row → swap (x ∷ row) (suc i) (suc (i + 1)) ≡ x ∷ swap row i (i + 1)
swap_next x row i h = ap (λ (ys : List ℕ). x ∷ ys) (swap_is row i (i + 1) x (omega (arith, h)) h)

held_swapped : (held : List (Option ℤ)) (row : List ℕ) (i : ℕ) → i + 1 < length row → (is_held held (get_or row i 0) && is_held held (get_or row (i + 1) 0)) ≡ false → IsHeldRow held row → IsHeldRow held (swap row i (i + 1))
held_swapped held [] i h free is = absurd (omega (arith, h))
held_swapped held (u ∷ []) zero h free is = absurd (omega (arith, h))
held_swapped held (u ∷ v ∷ row) zero h free is = (
  (λ hv. All-cons (IsBelow held v) u row (λ hu. absurd (not_two (is_held held u) (is_held held v) free hu hv)) (is.1.0 hv)),
  ((λ hu. All-tail (IsBelow held u) v row (is.0 hu)), is.1.1),
)
held_swapped held (u ∷ row) (suc i) h free is =
    let next : suc i + 1 ≡ suc (i + 1) = omega arith in
    let inside : i + 1 < length row = omega (arith, h) in
    let free_below = subst (λ (n : ℕ). (is_held held (get_or row i 0) && is_held held (get_or (u ∷ row) n 0)) ≡ false) next free in
    subst (λ (n : ℕ). IsHeldRow held (swap (u ∷ row) (suc i) n)) (sym next)
    (subst (λ (ys : List ℕ). IsHeldRow held ys) (sym (swap_next u row i inside))
    ((λ hu. All-permutation (IsBelow held u) row (swap row i (i + 1)) (IsPermutation-swap row (swap row i (i + 1)) i (i + 1) (omega (arith, h)) inside refl) (is.0 hu)), held_swapped held row i inside free_below is.1))

pub held_exchanged : (held : List (Option ℤ)) (rows : List (List ℕ)) (r i : ℕ) → r < length rows → i + 1 < length (row_at rows r) → IsFalse (are_both_held held (row_at rows r) i) → AreHeldRows held rows → AreHeldRows held (exchanged rows r i)
held_exchanged held rows r i hr hi free are g hg =
    let new : List ℕ = swap (row_at rows r) i (i + 1) in
    let long = length-set rows r (swap (row_at rows r) i (i + 1)) in
    elim (cases_eq g r) [
      | inl e ↦ subst (λ (x : ℕ). IsHeldRow held (row_at (set rows r new) x)) (sym e) (rw (get_or-set_same rows r new [] hr) (held_swapped held (row_at rows r) i hi free (are r hr)))
      | inr n ↦ rw (get_or-set_other rows r g new [] n) (are g (omega (arith, hg, long)))
    ]

-- ---- filled from a list

refilled_all : (moves : ℕ → Bool) (P : ℕ → Type 0) (row from : List ℕ) → length from ≡ length (filter moves row) → ((u : ℕ) → moves u ≡ false → P u) → All P from → All P (refilled moves row from)
refilled_all moves P [] from e free all = All-nil P
refilled_all moves P (u ∷ row) from e free all = step (moves u) refl (λ from e all. refilled_all moves P row from e free all) from e all
  where
    step : (b : Bool) → moves u ≡ b → ((from : List ℕ) → length from ≡ length (filter moves row) → All P from → All P (refilled moves row from))
        → (from : List ℕ) → length from ≡ length (cond b (u ∷ filter moves row) (filter moves row)) → All P from → All P (refilled moves (u ∷ row) from)
    step true t rest [] e all = absurd (omega (arith, e))
    step true t rest (m ∷ from) e all = rw t (All-cons P m (refilled moves row from) (All-head P m from all) (rest from (omega (arith, e)) (All-tail P m from all)))
    step false t rest [] e all = All-cons P u row (free u t) (subst (λ (xs : List ℕ). All P xs) (refilled_none moves row) (rest [] e all))
    step false t rest (m ∷ from) e all = rw t (All-cons P u (refilled moves row (m ∷ from)) (free u t) (rest (m ∷ from) e all))

free_is_below : (held : List (Option ℤ)) (u v : ℕ) → is_held held v ≡ false → IsBelow held u v
free_is_below held u v f h = absurd (both_ways (is_held held v) f h)

pub refilled_is_held : (held : List (Option ℤ)) (row from : List ℕ) → length from ≡ length (filter (is_held held) row) → IsHeldRow held from → IsHeldRow held (refilled (is_held held) row from)
refilled_is_held held [] from e is = tt
refilled_is_held held (u ∷ row) from e is = step (is_held held u) refl (λ from e is. refilled_is_held held row from e is) from e is
  where
    step : (b : Bool) → is_held held u ≡ b → ((from : List ℕ) → length from ≡ length (filter (is_held held) row) → IsHeldRow held from → IsHeldRow held (refilled (is_held held) row from))
        → (from : List ℕ) → length from ≡ length (cond b (u ∷ filter (is_held held) row) (filter (is_held held) row)) → IsHeldRow held from → IsHeldRow held (refilled (is_held held) (u ∷ row) from)
    step true t rest [] e is = absurd (omega (arith, e))
    step true t rest (m ∷ from) e is =
        rw t (
          (λ h. refilled_all (is_held held) (IsBelow held m) row from (omega (arith, e)) (λ v f. free_is_below held m v f) (is.0 h)),
          rest from (omega (arith, e)) is.1,
        )
    step false t rest [] e is =
        ((λ h. absurd (both_ways (is_held held u) t h)), subst (λ (xs : List ℕ). IsHeldRow held xs) (refilled_none (is_held held) row) (rest [] e is))
    step false t rest (m ∷ from) e is = rw t ((λ h. absurd (both_ways (is_held held u) t h)), rest (m ∷ from) e is)

-- ---- sorted by key and number

not_less : (m n : ℕ) → is_lt (nat_cmp m n) ≡ false → n ≤ m
not_less m n f =
    elim (cases_lt m n) [
      | inl l ↦ absurd (both_ways true (rw (lt-ltb m n l) at f) refl)
      | inr g ↦ g
    ]

goes_before : (a b : ℤ) (u v : ℕ) → is_lt (ordering_then (int_cmp b a) (nat_cmp v u)) ≡ false → (a <ℤ b) ⊎ ((a ≡ b) × (u ≤ v))
goes_before a b u v f = step (int_cmp b a) (int_ranks b a) f
  where
    step : (r : Ordering) → MatchOrdering r (b <ℤ a) (b ≡ a) (a <ℤ b) → is_lt (ordering_then r (nat_cmp v u)) ≡ false → (a <ℤ b) ⊎ ((a ≡ b) × (u ≤ v))
    step Less m f = absurd (both_ways true f refl)
    step Equal m f = inr (sym m, not_less v u f)
    step Greater m f = inl m

-- a list in which each goes before those below it
held_pairs : (held : List (Option ℤ)) (row : List ℕ) → ((i j : ℕ) → i < j → j < length row → GoesBefore held (get_or row i 0) (get_or row j 0)) → IsHeldRow held row
held_pairs held [] pairs = tt
held_pairs held (u ∷ row) pairs = (
  (λ h. All-from_get_or (IsBelow held u) row (0) (λ j l k. pairs 0 (suc j) (omega arith) (omega (arith, l)))),
  held_pairs held row (λ i j l h. pairs (suc i) (suc j) (omega (arith, l)) (omega (arith, h))),
)

numbers_back : (held : List (Option ℤ)) (row : List ℕ) → numbers_of (map (held_unit held) row) ≡ row
numbers_back held [] = refl
numbers_back held (u ∷ row) = ap (λ (ys : List ℕ). u ∷ ys) (numbers_back held row)

pub numbers_permuted : (held : List (Option ℤ)) (row : List ℕ) (units : List HeldUnit) → IsPermutation (held_units held row) units → IsPermutation (filter (is_held held) row) (numbers_of units)
numbers_permuted held row units p =
    subst (λ (xs : List ℕ). IsPermutation xs (numbers_of units)) (numbers_back held (filter (is_held held) row)) (IsPermutation-map (λ (h : HeldUnit). h.unit) (held_units held row) units p)

-- the key is that of the unit
abbrev HasKey : List (Option ℤ) → HeldUnit → Type 0
HasKey held h = h.key ≡ key_of held h.unit

have_keys : (held : List (Option ℤ)) (row : List ℕ) (units : List HeldUnit) → IsPermutation (held_units held row) units → All (HasKey held) units
have_keys held row units p =
    All-permutation (HasKey held) (held_units held row) units p
    (All-map (HasKey held) (held_unit held) (filter (is_held held) row) (All-from_get_or (λ u. HasKey held (held_unit held u)) (filter (is_held held) row) 0 (λ i h. refl)))

-- no unit is less than one before it, by key and number
abbrev pub AreInOrder : List HeldUnit → Type 0
AreInOrder units = (i j : ℕ) (d : HeldUnit) → i ≤ j → j < length units → is_lt (ordering_then (int_cmp (get_or units j d).key (get_or units i d).key) (nat_cmp (get_or units j d).unit (get_or units i d).unit)) ≡ false

pub sorted_is_held : (held : List (Option ℤ)) (row : List ℕ) (units : List HeldUnit) → IsPermutation (held_units held row) units → AreInOrder units → IsHeldRow held (numbers_of units)
sorted_is_held held row units p sorted =
    let none : HeldUnit = held_unit held 0 in
    let keys = have_keys held row units p in
    let long = length-map units (λ (h : HeldUnit). h.unit) in
    held_pairs held (numbers_of units) (λ i j l h.
    let inside : j < length units = omega (arith, h, long) in
    let before : i < length units = omega (arith, l, inside) in
    let order = goes_before (get_or units i none).key (get_or units j none).key (get_or units i none).unit (get_or units j none).unit (sorted i j none (omega (arith, l)) inside) in
    rw (get_or-map (λ (h : HeldUnit). h.unit) units i none 0 before, get_or-map (λ (h : HeldUnit). h.unit) units j none 0 inside)
    (subst (λ (k : ℤ). (k <ℤ key_of held (get_or units j none).unit) ⊎ ((k ≡ key_of held (get_or units j none).unit) × ((get_or units i none).unit ≤ (get_or units j none).unit))) (All-get_or (HasKey held) units i none before keys)
    (subst (λ (k : ℤ). ((get_or units i none).key <ℤ k) ⊎ (((get_or units i none).key ≡ k) × ((get_or units i none).unit ≤ (get_or units j none).unit))) (All-get_or (HasKey held) units j none inside keys) order)))

-- the order that a sort by key and number makes
pub sorted_in_order : (units : List HeldUnit) → IsSortedByKey (λ (h : HeldUnit). (h.key, h.unit)) (λ (x y : ℤ × ℕ). ordering_then (int_cmp x.0 y.0) (nat_cmp x.1 y.1)) units → AreInOrder units
sorted_in_order units up i j d l h =
    sorted_far (λ (a b : HeldUnit). is_lt (ordering_then (int_cmp a.key b.key) (nat_cmp a.unit b.unit)))
    (ranks_by (then_total (on_total (λ (t : ℤ × ℕ). t.0) int_cmp_total) (on_total (λ (t : ℤ × ℕ). t.1) nat_cmp_total)) (λ (h : HeldUnit). (h.key, h.unit))) units up i j d l h

-- one of two orders in which the units are held
pub held_of_either : (held : List (Option ℤ)) (kept new rows : List (List ℕ)) → AreHeldRows held kept → AreHeldRows held new → (rows ≡ kept) ⊎ (rows ≡ new) → AreHeldRows held rows
held_of_either held kept new rows a b (inl e) = subst (λ xs. AreHeldRows held xs) (sym e) a
held_of_either held kept new rows a b (inr e) = subst (λ xs. AreHeldRows held xs) (sym e) b
