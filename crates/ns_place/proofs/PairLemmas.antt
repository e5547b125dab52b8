-- The pairs of units that keep a distance.
use Rattle.std.proofs.Common.{◌≡◌, ℕ, zero, suc, ◌+◌, ◌-◌, ◌<◌, ◌≤◌, ℤ, pos, negsuc, ◌+ℤ◌, ◌≤ℤ◌, ◌<ℤ◌, ◌⊎◌, List, [], ◌∷◌, ◌++◌, length, drop, get_or, Bool, true, false, arith, refl, ◌∙◌, ap, append_assoc, inl, inr}
use Rattle.std.specs.List.{All, filter}
use Rattle.std.proofs.lemmas.Int.{ints}
use Rattle.std.proofs.lemmas.Bool.{cases_Bool}
use Rattle.std.proofs.lemmas.List.{drop_more}
use Rattle.std.proofs.lemmas.List.Elements.{All-nil, All-cons, All-head, All-tail, All-append, All-filter, All-from_get_or, All-weaker, filter_passes}
use Rattle.elk_layers.specs.Layered.{Plain, IsSound, AreRows, row_at, place_in, place_of, is_child}
use Rattle.elk_layers.specs.Lines.{top_of, room, body_room, facing, lane_below, lane_above}
use Rattle.elk_layers.proofs.PlaceLemmas.{place_at}
use Rattle.ns_place.specs.declared.least.PairFlow.{PairFlow}
use Rattle.ns_place.specs.Pairs.{pair_of, neighbours, row_pairs, all_pairs, distance, IsPair}
use Rattle.ns_place.specs.Heights.{KeepDistances}

pub All-left : {X : Type 0} (P : X → Type 0) (xs ys : List X) → All P (xs ++ ys) → All P xs
All-left P [] ys h = All-nil P
All-left P (x ∷ xs) ys h = All-cons P x xs (All-head P x (xs ++ ys) h) (All-left P xs ys (All-tail P x (xs ++ ys) h))

pub All-right : {X : Type 0} (P : X → Type 0) (xs ys : List X) → All P (xs ++ ys) → All P ys
All-right P [] ys h = h
All-right P (x ∷ xs) ys h = All-right P xs ys (All-tail P x (xs ++ ys) h)

-- pairs along a list, one after the other

pub neighbours_short : (body : Bool) (units : List ℕ) → length units ≤ 1 → neighbours body units ≡ []
neighbours_short body [] h = refl
neighbours_short body (u ∷ []) h = refl
neighbours_short body (u ∷ v ∷ units) h = absurd (omega (arith, h))

pub neighbours_step : (body : Bool) (units : List ℕ) (i : ℕ) (now : List PairFlow) → 1 ≤ i → i < length units
    → (now ++ pair_of body (get_or units (i - 1) 0) (get_or units i 0) ∷ []) ++ neighbours body (drop (i + 1 - 1) units) ≡ now ++ neighbours body (drop (i - 1) units)
neighbours_step body units i now h k =
    let u = get_or units (i - 1) 0 in
    let v = get_or units i 0 in
    let back : i - 1 + 1 ≡ i = omega (arith, h) in
    let on : i + 1 - 1 ≡ i = omega arith in
    let here : drop i units ≡ v ∷ drop (i + 1) units = drop_more units i 0 k in
    let before : drop (i - 1) units ≡ u ∷ v ∷ drop (i + 1) units =
    drop_more units (i - 1) 0 (omega (arith, k)) ∙ ap (λ n. u ∷ drop n units) back ∙ ap (λ xs. u ∷ xs) here in
    rw (on, here, before) (append_assoc now _ _)

pub rows_step : (l : Plain) (rows : List (List ℕ)) (i : ℕ) (now : List PairFlow) → i < length rows
    → (now ++ row_pairs l (get_or rows i [])) ++ all_pairs l (drop (i + 1) rows) ≡ now ++ all_pairs l (drop i rows)
rows_step l rows i now k =
    rw (drop_more rows i [] k) (append_assoc now (row_pairs l (get_or rows i [])) (all_pairs l (drop (i + 1) rows)))

-- a fact of all pairs, by rows and places

pub neighbours_all : (body : Bool) (P : PairFlow → Type 0) (units : List ℕ) → ((i : ℕ) → i + 1 < length units → P (pair_of body (get_or units i 0) (get_or units (i + 1) 0))) → All P (neighbours body units)
neighbours_all body P [] h = All-nil P
neighbours_all body P (u ∷ []) h = All-nil P
neighbours_all body P (u ∷ v ∷ units) h =
    All-cons P (pair_of body u v) (neighbours body (v ∷ units)) (h 0 (omega arith))
    (neighbours_all body P (v ∷ units) (λ i k.
    let n : i + 1 ≡ suc i = omega arith in
    let m : suc i + 1 ≡ suc (suc i) = omega arith in
    rw n (rw m at (h (suc i) (omega (arith, k))))))

neighbour_at : (body : Bool) (P : PairFlow → Type 0) (units : List ℕ) → All P (neighbours body units) → (i : ℕ) → i + 1 < length units → P (pair_of body (get_or units i 0) (get_or units (i + 1) 0))
neighbour_at body P [] h i k = absurd (omega (arith, k))
neighbour_at body P (u ∷ []) h i k = absurd (omega (arith, k))
neighbour_at body P (u ∷ v ∷ units) h zero k = All-head P (pair_of body u v) (neighbours body (v ∷ units)) h
neighbour_at body P (u ∷ v ∷ units) h (suc i) k =
    let n : suc i + 1 ≡ suc (i + 1) = omega arith in
    rw n (neighbour_at body P (v ∷ units) (All-tail P (pair_of body u v) (neighbours body (v ∷ units)) h) i (omega (arith, k)))

rows_all : (l : Plain) (P : PairFlow → Type 0) (rows : List (List ℕ)) → ((r : ℕ) → r < length rows → All P (row_pairs l (row_at rows r))) → All P (all_pairs l rows)
rows_all l P [] h = All-nil P
rows_all l P (row ∷ rows) h =
    All-append P (row_pairs l row) (all_pairs l rows) (h 0 (omega arith)) (rows_all l P rows (λ r k. h (suc r) (omega (arith, k))))

row_of_all : (l : Plain) (P : PairFlow → Type 0) (rows : List (List ℕ)) → All P (all_pairs l rows) → (r : ℕ) → r < length rows → All P (row_pairs l (row_at rows r))
row_of_all l P [] h r k = absurd (omega (arith, k))
row_of_all l P (row ∷ rows) h zero k = All-left P (row_pairs l row) (all_pairs l rows) h
row_of_all l P (row ∷ rows) h (suc r) k = row_of_all l P rows (All-right P (row_pairs l row) (all_pairs l rows) h) r (omega (arith, k))

-- the pair's distance is kept
abbrev pub IsApart : Plain → List ℤ → PairFlow → Type 0
IsApart l tops p = (top_of tops p.upper +ℤ distance l p) ≤ℤ top_of tops p.lower

pub distances_kept : (l : Plain) (rows : List (List ℕ)) (tops : List ℤ) → length tops ≡ length l.units → All (IsApart l tops) (all_pairs l rows) → KeepDistances l rows tops
distances_kept l rows tops long all =
    record {
      as_many = long;
      rooms = λ r h. neighbour_at false (IsApart l tops) (row_at rows r) (All-left (IsApart l tops) (neighbours false (row_at rows r)) (neighbours true (filter (is_child l) (row_at rows r))) (row_of_all l (IsApart l tops) rows all r h));
      body_rooms = λ r h. neighbour_at true (IsApart l tops) (filter (is_child l) (row_at rows r)) (All-right (IsApart l tops) (neighbours false (row_at rows r)) (neighbours true (filter (is_child l) (row_at rows r))) (row_of_all l (IsApart l tops) rows all r h));
    }

pub kept_distances : (l : Plain) (rows : List (List ℕ)) (tops : List ℤ) → KeepDistances l rows tops → All (IsApart l tops) (all_pairs l rows)
kept_distances l rows tops keep =
    rows_all l (IsApart l tops) rows (λ r h. All-append (IsApart l tops) (neighbours false (row_at rows r)) (neighbours true (filter (is_child l) (row_at rows r)))
    (neighbours_all false (IsApart l tops) (row_at rows r) (keep.rooms r h))
    (neighbours_all true (IsApart l tops) (filter (is_child l) (row_at rows r)) (keep.body_rooms r h)))

pub are_pairs : (l : Plain) (rows : List (List ℕ)) → AreRows l rows → All (IsPair l) (all_pairs l rows)
are_pairs l rows are =
    rows_all l (IsPair l) rows (λ r h.
    let row : List ℕ = row_at rows r in
    let inner : List ℕ = filter (is_child l) (row_at rows r) in
    let within = All-filter (is_child l) (λ u. u < length l.units) (row_at rows r) (All-from_get_or (λ u. u < length l.units) (row_at rows r) 0 (are.in_range r h)) in
    All-append (IsPair l) (neighbours false row) (neighbours true inner)
    (neighbours_all false (IsPair l) row (λ i k. record { upper_is = are.in_range r h i (omega (arith, k)); lower_is = are.in_range r h (i + 1) k; children = λ e. absurd cc }))
    (neighbours_all true (IsPair l) inner (λ i k. record { upper_is = within i 0 (omega (arith, k)); lower_is = within (i + 1) 0 k; children = λ e. (filter_passes (is_child l) row i 0 (omega (arith, k)), filter_passes (is_child l) row (i + 1) 0 k) })))

-- each element of the list is so related to all after it
abbrev Ordered : (ℕ → ℕ → Type 0) → List ℕ → Type 0
Ordered R [] = Unit {0}
Ordered R (x ∷ xs) = All (R x) xs × Ordered R xs

ordered_from : (R : ℕ → ℕ → Type 0) (xs : List ℕ) → ((i j : ℕ) → i < j → j < length xs → R (get_or xs i 0) (get_or xs j 0)) → Ordered R xs
ordered_from R [] h = tt
ordered_from R (x ∷ xs) h = (
  All-from_get_or (R x) xs 0 (λ j l. h 0 (suc j) (omega arith) (omega (arith, l))),
  ordered_from R xs (λ i j l k. h (suc i) (suc j) (omega (arith, l)) (omega (arith, k))),
)

ordered_filter : (test : ℕ → Bool) (R : ℕ → ℕ → Type 0) (xs : List ℕ) → Ordered R xs → Ordered R (filter test xs)
ordered_filter test R [] h = tt
ordered_filter test R (x ∷ xs) h = elim (cases_Bool (test x)) [
  | inl t ↦ rw t (All-filter test (R x) xs h.0, ordered_filter test R xs h.1)
  | inr e ↦ rw e (ordered_filter test R xs h.1)
]

neighbours_ordered : (body : Bool) (R : ℕ → ℕ → Type 0) (xs : List ℕ) → Ordered R xs → All (λ (p : PairFlow). R p.upper p.lower) (neighbours body xs)
neighbours_ordered body R [] h = All-nil (λ (p : PairFlow). R p.upper p.lower)
neighbours_ordered body R (x ∷ []) h = All-nil (λ (p : PairFlow). R p.upper p.lower)
neighbours_ordered body R (x ∷ y ∷ xs) h =
    All-cons (λ (p : PairFlow). R p.upper p.lower) (pair_of body x y) (neighbours body (y ∷ xs))
    (All-head (R x) y xs h.0) (neighbours_ordered body R (y ∷ xs) h.1)

-- the upper unit of a pair stands before the lower one in its row
pub pairs_ascend : (l : Plain) (rows : List (List ℕ)) → AreRows l rows → All (λ (p : PairFlow). place_of l rows p.upper < place_of l rows p.lower) (all_pairs l rows)
pairs_ascend l rows are =
    let R : ℕ → ℕ → Type 0 = λ u v. place_of l rows u < place_of l rows v in
    rows_all l (λ (p : PairFlow). place_of l rows p.upper < place_of l rows p.lower) rows (λ r h.
    let at : (i : ℕ) → i < length (row_at rows r) → place_of l rows (get_or (row_at rows r) i 0) ≡ i =
    λ i k. ap (λ g. place_in (row_at rows g) (get_or (row_at rows r) i 0)) (are.in_layer r h i k) ∙ place_at (row_at rows r) (are.once r h) i k in
    let up = ordered_from R (row_at rows r) (λ i j less k. let a = at i (omega (arith, less, k)) in let b = at j k in omega (arith, a, b, less)) in
    All-append (λ (p : PairFlow). place_of l rows p.upper < place_of l rows p.lower) (neighbours false (row_at rows r)) (neighbours true (filter (is_child l) (row_at rows r)))
    (neighbours_ordered false R (row_at rows r) up)
    (neighbours_ordered true R (filter (is_child l) (row_at rows r)) (ordered_filter (is_child l) R (row_at rows r) up)))

-- a unit stands no lower than another
abbrev NoLower : List ℤ → ℕ → ℕ → Type 0
NoLower tops u v = top_of tops u ≤ℤ top_of tops v

neighbours_climb : (tops : List ℤ) (xs : List ℕ) → All (λ (p : PairFlow). NoLower tops p.upper p.lower) (neighbours false xs) → Ordered (NoLower tops) xs
neighbours_climb tops [] h = tt
neighbours_climb tops (x ∷ []) h = (All-nil (NoLower tops x), tt)
neighbours_climb tops (x ∷ y ∷ xs) h =
    let here = All-head (λ (p : PairFlow). NoLower tops p.upper p.lower) (pair_of false x y) (neighbours false (y ∷ xs)) h in
    let rest = neighbours_climb tops (y ∷ xs) (All-tail (λ (p : PairFlow). NoLower tops p.upper p.lower) (pair_of false x y) (neighbours false (y ∷ xs)) h) in
    (All-cons (NoLower tops x) y xs here (All-weaker (NoLower tops y) (NoLower tops x) (λ z k. omega (arith, ints, here, k)) xs rest.0), rest)

facing_from_zero : (l : Plain) → IsSound l → (a b : Bool) → pos 0 ≤ℤ facing l a b
facing_from_zero l s true true = let h = s.edge_edge_is.low in omega (arith, ints, h)
facing_from_zero l s true false = let h = s.edge_node_is.low in omega (arith, ints, h)
facing_from_zero l s false true = let h = s.edge_node_is.low in omega (arith, ints, h)
facing_from_zero l s false false = let h = s.node_node_is.low in omega (arith, ints, h)

room_from_zero : (l : Plain) (u v : ℕ) → IsSound l → u < length l.units → pos 0 ≤ℤ room l u v
room_from_zero l u v s h =
    let a = s.heights u h in
    let b = facing_from_zero l s (lane_below l u) (lane_above l v) in
    omega (arith, ints, a, b)

cases_sign : (z : ℤ) → (pos 0 ≤ℤ z) ⊎ (z <ℤ pos 0)
cases_sign (pos n) = inl (omega (arith, ints))
cases_sign (negsuc n) = inr (omega (arith, ints))

-- where a distance is below nothing, the rooms between hold the two children apart
pub all_apart : (l : Plain) (rows : List (List ℕ)) (tops : List ℤ) → IsSound l → AreRows l rows → All (λ (p : PairFlow). pos 0 ≤ℤ distance l p → IsApart l tops p) (all_pairs l rows) → All (IsApart l tops) (all_pairs l rows)
all_apart l rows tops s are h =
    let P : PairFlow → Type 0 = λ p. pos 0 ≤ℤ distance l p → IsApart l tops p in
    rows_all l (IsApart l tops) rows (λ r k.
    let row : List ℕ = row_at rows r in
    let inner : List ℕ = filter (is_child l) (row_at rows r) in
    let both = row_of_all l P rows h r k in
    let near = All-left P (neighbours false row) (neighbours true inner) both in
    let far = All-right P (neighbours false row) (neighbours true inner) both in
    let low : (i : ℕ) → i + 1 < length row → pos 0 ≤ℤ room l (get_or row i 0) (get_or row (i + 1) 0) =
    λ i q. room_from_zero l (get_or row i 0) (get_or row (i + 1) 0) s (are.in_range r k i (omega (arith, q))) in
    let rooms : (i : ℕ) → i + 1 < length row → (top_of tops (get_or row i 0) +ℤ room l (get_or row i 0) (get_or row (i + 1) 0)) ≤ℤ top_of tops (get_or row (i + 1) 0) =
    λ i q. neighbour_at false P row near i q (low i q) in
    let climb = neighbours_climb tops row (neighbours_all false (λ (p : PairFlow). NoLower tops p.upper p.lower) row (λ i q. let a = rooms i q in let b = low i q in omega (arith, ints, a, b))) in
    let inside = neighbours_ordered true (NoLower tops) inner (ordered_filter (is_child l) (NoLower tops) row climb) in
    All-append (IsApart l tops) (neighbours false row) (neighbours true inner)
    (neighbours_all false (IsApart l tops) row rooms)
    (neighbours_all true (IsApart l tops) inner (λ i q. elim (cases_sign (body_room l (get_or inner i 0) (get_or inner (i + 1) 0))) [
      | inl a ↦ neighbour_at true P inner far i q a
      | inr b ↦ let c = neighbour_at true (λ (p : PairFlow). NoLower tops p.upper p.lower) inner inside i q in omega (arith, ints, b, c)
    ])))

pub no_flow_yet : (l : Plain) (rows : List (List ℕ)) → All (λ (p : PairFlow). p.flow ≡ 0) (all_pairs l rows)
no_flow_yet l rows =
    let P : PairFlow → Type 0 = λ p. p.flow ≡ 0 in
    rows_all l P rows (λ r k. All-append P (neighbours false (row_at rows r)) (neighbours true (filter (is_child l) (row_at rows r)))
    (neighbours_all false P (row_at rows r) (λ i q. refl)) (neighbours_all true P (filter (is_child l) (row_at rows r)) (λ i q. refl)))
