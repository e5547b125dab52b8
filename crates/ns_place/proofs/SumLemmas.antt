-- What the pairs of all rows add up to.
use Rattle.std.proofs.Common.{◌≡◌, ℕ, zero, suc, ◌+◌, ◌*◌, ◌<◌, ◌≤◌, ◌^◌, cond, eqb, ℤ, pos, negsuc, ◌+ℤ◌, ◌≤ℤ◌, List, [], ◌∷◌, length, get_or, Bool, true, false, arith, refl, ap, inl, inr}
use Rattle.std.proofs.lemmas.Int.{ints}
use Rattle.std.proofs.lemmas.Bool.{cases_Bool, cases_lt}
use Rattle.std.specs.List.{All, filter, sum_by, concat}
use Rattle.std.proofs.lemmas.List.Elements.{All-nil, All-head, All-tail, All-append, All-from_get_or}
use Rattle.std.proofs.lemmas.List.Sums.{sum_by-cons, sum_by-append}
use Rattle.elk_layers.specs.declared.units.Unit.{Unit as LayerUnit}
use Rattle.elk_layers.specs.Layered.{Plain, IsSound, AreRows, unit_at, row_at, layer_of, place_in, is_child, total_height}
use Rattle.elk_layers.specs.Lines.{facing, lane_below, lane_above}
use Rattle.network_laws.specs.Layering.{natural}
use Rattle.network_laws.proofs.Duality.{over_nodes, over_same, over_sum, over_one, natural_is}
use Rattle.elk_layers.specs.Occurring.{occurs, HasNoRepeat}
use Rattle.elk_layers.proofs.OccursLemmas.{occurs-append, no_repeat_from}
use Rattle.elk_layers.proofs.PlaceLemmas.{place_below, place_reads}
use Rattle.ns_place.specs.declared.least.PairFlow.{PairFlow}
use Rattle.ns_place.specs.Pairs.{pair_of, neighbours, row_pairs, all_pairs, distance, IsPair}
use Rattle.flow_dual.proofs.Augmenting.{over_le}

neighbours_sum : (g : ℕ → ℕ) (body : Bool) (xs : List ℕ) → sum_by (λ (p : PairFlow). g p.upper) (neighbours body xs) ≤ sum_by g xs
neighbours_sum g body [] = omega arith
neighbours_sum g body (x ∷ []) = omega arith
neighbours_sum g body (x ∷ y ∷ xs) =
    let rest = neighbours_sum g body (y ∷ xs) in
    let a = sum_by-cons (λ (p : PairFlow). g p.upper) (pair_of body x y) (neighbours body (y ∷ xs)) in
    let b = sum_by-cons g x (y ∷ xs) in
    omega (arith, rest, a, b)

filter_sum : (g : ℕ → ℕ) (test : ℕ → Bool) (xs : List ℕ) → sum_by g (filter test xs) ≤ sum_by g xs
filter_sum g test [] = omega arith
filter_sum g test (x ∷ xs) =
    let rest = filter_sum g test xs in
    let b = sum_by-cons g x xs in
    elim (cases_Bool (test x)) [
      | inl t ↦ let a = sum_by-cons g x (filter test xs) in rw t (omega (arith, rest, a, b))
      | inr e ↦ rw e (omega (arith, rest, b))
    ]

pairs_sum : (l : Plain) (g : ℕ → ℕ) (rows : List (List ℕ)) → sum_by (λ (p : PairFlow). g p.upper) (all_pairs l rows) ≤ 2 * sum_by g (concat rows)
pairs_sum l g [] = omega arith
pairs_sum l g (row ∷ rows) =
    let f : PairFlow → ℕ = λ p. g p.upper in
    let rest = pairs_sum l g rows in
    let a = neighbours_sum g false row in
    let b = neighbours_sum g true (filter (is_child l) row) in
    let c = filter_sum g (is_child l) row in
    let d = sum_by-append (λ (p : PairFlow). g p.upper) (neighbours false row) (neighbours true (filter (is_child l) row)) in
    let e = sum_by-append (λ (p : PairFlow). g p.upper) (row_pairs l row) (all_pairs l rows) in
    let k = sum_by-append g row (concat rows) in
    omega (arith, rest, a, b, c, d, e, k)

-- each unit stands in one row alone
rows_once : (l : Plain) (rows : List (List ℕ)) (from : ℕ) → ((r : ℕ) → r < length rows → (i : ℕ) → i < length (row_at rows r) → layer_of l (get_or (row_at rows r) i 0) ≡ from + r)
    → ((r : ℕ) → r < length rows → HasNoRepeat (row_at rows r)) → (u : ℕ) → (occurs u (concat rows) ≤ 1) × (1 ≤ occurs u (concat rows) → from ≤ layer_of l u)
rows_once l [] from layers once u = (omega arith, λ h. absurd (omega (arith, h)))
rows_once l (row ∷ rows) from layers once u =
    let rest = rows_once l rows (from + 1) (λ r h i k. let a = layers (suc r) (omega (arith, h)) i k in omega (arith, a)) (λ r h. once (suc r) (omega (arith, h))) u in
    let split = occurs-append u row (concat rows) in
    let one : occurs u row ≤ 1 = once 0 (omega arith) u in
    let in_row : 1 ≤ occurs u row → layer_of l u ≡ from =
    λ h. let a = layers 0 (omega arith) (place_in row u) (place_below u row h) in
    let b : layer_of l (get_or row (place_in row u) 0) ≡ layer_of l u = ap (layer_of l) (place_reads u row h) in
    omega (arith, a, b)
    in
    elim (cases_lt 0 (occurs u row)) [
      | inl some ↦
          let here = in_row some in
          elim (cases_lt 0 (occurs u (concat rows))) [
            | inl more ↦ let far = rest.1 more in absurd (omega (arith, far, here))
            | inr none ↦ (omega (arith, split, one, none), λ h. omega (arith, here))
          ]
      | inr no_more ↦ let a = rest.0 in (omega (arith, split, no_more, a), λ h. let b = rest.1 (omega (arith, h, split, no_more)) in omega (arith, b))
    ]

rows_below : (n : ℕ) (rows : List (List ℕ)) → ((r : ℕ) → r < length rows → (i : ℕ) → i < length (row_at rows r) → get_or (row_at rows r) i 0 < n) → All (λ u. u < n) (concat rows)
rows_below n [] h = All-nil (λ u. u < n)
rows_below n (first ∷ rows) h =
    All-append (λ u. u < n) first (concat rows) (All-from_get_or (λ u. u < n) first 0 (h 0 (omega arith))) (rows_below n rows (λ r k. h (suc r) (omega (arith, k))))

over_zero : (n : ℕ) → over_nodes (λ v. 0) n ≡ 0
over_zero zero = refl
over_zero (suc n) = let a = over_zero n in omega (arith, a)

few_times : (k x : ℕ) → k ≤ 1 → k * x ≤ x
few_times zero x h = omega arith
few_times (suc zero) x h = omega arith
few_times (suc (suc k)) x h = absurd (omega (arith, h))

counted : (g : ℕ → ℕ) (n : ℕ) (xs : List ℕ) → All (λ u. u < n) xs → sum_by g xs ≡ over_nodes (λ v. occurs v xs * g v) n
counted g n [] h =
    let a = over_same (λ v. occurs v [] * g v) (λ v. 0) n (λ v l. omega arith) in
    let b = over_zero n in
    omega (arith, a, b)
counted g n (x ∷ xs) h =
    let rest = counted g n xs (All-tail (λ u. u < n) x xs h) in
    let one = over_one g 1 x n (All-head (λ u. u < n) x xs h) in
    let split = over_sum (λ v. cond (eqb x v) 1 0 * g v) (λ v. occurs v xs * g v) n in
    let same = over_same (λ v. (cond (eqb x v) 1 0 + occurs v xs) * g v) (λ v. cond (eqb x v) 1 0 * g v + occurs v xs * g v) n (λ v l. omega arith) in
    let c = sum_by-cons g x xs in
    omega (arith, rest, one, split, same, c)

over_shift : (n : ℕ) (f : ℕ → ℕ) → over_nodes f (suc n) ≡ f 0 + over_nodes (λ v. f (suc v)) n
over_shift zero f = omega arith
over_shift (suc n) f = let h = over_shift n f in omega (arith, h)

over_units : (h : LayerUnit → ℕ) (units : List LayerUnit) → over_nodes (λ u. h (unit_at units u)) (length units) ≡ sum_by h units
over_units h [] = refl
over_units h (u ∷ units) =
    let rest = over_units h units in
    let split = over_shift (length units) (λ w. h (unit_at (u ∷ units) w)) in
    let c = sum_by-cons h u units in
    omega (arith, rest, split, c)

-- a number of each pair's upper unit, over all pairs, is at most twice that of each unit
pub pairs_within : (l : Plain) (rows : List (List ℕ)) (h : LayerUnit → ℕ) → AreRows l rows → sum_by (λ (p : PairFlow). h (unit_at l.units p.upper)) (all_pairs l rows) ≤ 2 * sum_by h l.units
pairs_within l rows h are =
    let g : ℕ → ℕ = λ u. h (unit_at l.units u) in
    let once = rows_once l rows 0 (λ r k i j. let a = are.in_layer r k i j in omega (arith, a)) (λ r k. no_repeat_from (row_at rows r) (are.once r k)) in
    let a = pairs_sum l (λ u. h (unit_at l.units u)) rows in
    let b = counted (λ u. h (unit_at l.units u)) (length l.units) (concat rows) (rows_below (length l.units) rows are.in_range) in
    let c = over_le (λ v. occurs v (concat rows) * h (unit_at l.units v)) (λ u. h (unit_at l.units u)) (length l.units) (λ v k. few_times (occurs v (concat rows)) (h (unit_at l.units v)) (once v).0) in
    let d = over_units h l.units in
    omega (arith, a, b, c, d)

pub natural_le : (z : ℤ) (n : ℕ) → z ≤ℤ pos n → natural z ≤ n
natural_le (pos m) n h = omega (arith, ints, h)
natural_le (negsuc m) n h = omega arith

pub facing_small : (l : Plain) → IsSound l → (a b : Bool) → facing l a b ≤ℤ pos (2 ^ 20)
facing_small l s true true = let h = s.edge_edge_is.high in omega (arith, ints, h)
facing_small l s true false = let h = s.edge_node_is.high in omega (arith, ints, h)
facing_small l s false true = let h = s.edge_node_is.high in omega (arith, ints, h)
facing_small l s false false = let h = s.node_node_is.high in omega (arith, ints, h)

distance_by : (l : Plain) (upper lower : ℕ) (body : Bool) (flow : ℕ) → IsSound l → IsPair l (record { upper = upper; lower = lower; body = body; flow = flow })
    → distance l (record { upper = upper; lower = lower; body = body; flow = flow }) ≤ℤ ((unit_at l.units upper).height +ℤ pos (2 ^ 20))
distance_by l upper lower true flow s p =
    let a = s.bodies upper p.upper_is (p.children refl).0 in
    let b = s.bodies lower p.lower_is (p.children refl).1 in
    let h = s.node_node_is.high in
    omega (arith, ints, a.bottom, b.top, h)
distance_by l upper lower false flow s p =
    let f = facing_small l s (lane_below l upper) (lane_above l lower) in
    omega (arith, ints, f)

pub distance_within : (l : Plain) (p : PairFlow) → IsSound l → IsPair l p → distance l p ≤ℤ ((unit_at l.units p.upper).height +ℤ pos (2 ^ 20))
distance_within l p s h = distance_by l p.upper p.lower p.body p.flow s h

-- the room that a unit takes at most
abbrev pub most_room : LayerUnit → ℕ
most_room u = natural u.height + 1048576

pub most_rooms : (units : List LayerUnit) → ((u : ℕ) → u < length units → pos 0 ≤ℤ (unit_at units u).height) → pos (sum_by most_room units) ≡ total_height units +ℤ pos (length units * 1048576)
most_rooms [] h = refl
most_rooms (u ∷ units) h =
    let rest = most_rooms units (λ k l. h (suc k) (omega (arith, l))) in
    let c = sum_by-cons most_room u units in
    let n = natural_is u.height (h 0 (omega arith)) in
    omega (arith, ints, rest, c, n)

pub count_units : (units : List LayerUnit) → sum_by (λ (u : LayerUnit). 1) units ≡ length units
count_units [] = refl
count_units (u ∷ units) = let rest = count_units units in let c = sum_by-cons (λ (v : LayerUnit). 1) u units in omega (arith, rest, c)

pub count_pairs : (pairs : List PairFlow) → sum_by (λ (p : PairFlow). 1) pairs ≡ length pairs
count_pairs [] = refl
count_pairs (u ∷ pairs) = let rest = count_pairs pairs in let c = sum_by-cons (λ (v : PairFlow). 1) u pairs in omega (arith, rest, c)
