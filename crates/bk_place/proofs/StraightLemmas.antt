-- The links that a sweep chooses neither cross nor meet.
use Rattle.std.proofs.Common.{◌≡◌, ◌≢◌, ℕ, zero, suc, ◌+◌, ◌-◌, ◌/◌, ◌<◌, ◌≤◌, ◌==◌, ◌&&◌, ◌||◌, cond, not, nat_lt, nat_le, List, [], ◌∷◌, ◌++◌, length, map, drop, reverse, get_or, Bool, true, false, arith, refl, sym, ◌∙◌, ap, subst, inl, inr, ◌⊎◌, ⊎_elim, eq-eqb, ne_eqb, eqb-true, lt-ltb, ltb-true}
use Rattle.std.specs.List.{filter, list_all, concat, range_with_len}
use Rattle.std.specs.Prelude.{⊤}
use Rattle.std.proofs.lemmas.Bool.{cases_eq, cases_Bool, and_parts}
use Rattle.std.proofs.lemmas.List.{get_or-reverse, length-reverse, get_or-drop, length-drop, get_or_append_left, get_or-append_right, length-append, append-nil}
use Rattle.elk_layers.specs.declared.units.Link.{Link}
use Rattle.drawing_types.specs.declared.sweep.Sweep.{Sweep}
use Rattle.drawing_types.specs.declared.sweep.Sweep.TheVariants.{LeftUp, LeftDown, RightUp, RightDown}
use Rattle.elk_layers.specs.Layered.{Plain, IsSound, AreRows, layer_of, row_at, link_at, gap_of, place_of, place_in}
use Rattle.elk_layers.specs.Alignment.{goes_left, goes_up, near_end, far_end, far_place, visited_row, visits, sorted_links, medians_in, is_beyond, is_free, is_marked, far_key, first_of, chosen_at, chosen_after, aligned}
use Rattle.elk_layers.specs.Occurring.{occurs}
use Rattle.elk_layers.specs.Straight.{chosen_link, RunsBeside, AreStraight}
use Rattle.elk_layers.proofs.OccursLemmas.{occurs_first, occurs_at, occurs_sorted, occurs_range, occurs_passes, occurs_among, occurs_two}
use Rattle.elk_layers.proofs.PlaceLemmas.{place_below, place_reads, place_at}

-- members of what a visit looks at

pub record IsTaken (passes : ℕ → Bool) (ks : List ℕ) (k : ℕ) : Type 0 where
  pub is_first : first_of passes ks ≡ k ∷ []
  pub does_pass : passes k ≡ true
  pub is_there : 1 ≤ occurs k ks

pub first_cases : (passes : ℕ → Bool) (ks : List ℕ) → (first_of passes ks ≡ []) ⊎ ((k : ℕ) × IsTaken passes ks k)
first_cases passes [] = inl refl
first_cases passes (k ∷ ks) = elim (cases_Bool (passes k)) [
  | inl t ↦ inr (k, record { is_first = rw t refl; does_pass = t; is_there = occurs_first k ks })
  | inr f ↦ ⊎_elim (λ none. inl (rw f none))
      (λ p. inr (p.0, record { is_first = rw f p.1.is_first; does_pass = p.1.does_pass; is_there = let o = p.1.is_there in omega (arith, o) }))
      (first_cases passes ks)
]

pub occurs_medians : (up : Bool) (ks : List ℕ) (n : ℕ) → 1 ≤ occurs n (medians_in up ks) → 1 ≤ occurs n ks
occurs_medians up [] n h = absurd (omega (arith, h))
occurs_medians true (k ∷ ks) n h =
    let m = length (k ∷ ks) in
    ⊎_elim (λ e. subst (λ x. 1 ≤ occurs x (k ∷ ks)) (sym e) (occurs_at (k ∷ ks) ((length (k ∷ ks) - 1) / 2) (omega arith)))
    (λ e. subst (λ x. 1 ≤ occurs x (k ∷ ks)) (sym e) (occurs_at (k ∷ ks) (length (k ∷ ks) / 2) (omega arith)))
    (occurs_two _ _ n h)
occurs_medians false (k ∷ ks) n h =
    ⊎_elim (λ e. subst (λ x. 1 ≤ occurs x (k ∷ ks)) (sym e) (occurs_at (k ∷ ks) (length (k ∷ ks) / 2) (omega arith)))
    (λ e. subst (λ x. 1 ≤ occurs x (k ∷ ks)) (sym e) (occurs_at (k ∷ ks) ((length (k ∷ ks) - 1) / 2) (omega arith)))
    (occurs_two _ _ n h)

all_at : (test : ℕ → Bool) (xs : List ℕ) → list_all test xs ≡ true → (i : ℕ) → i < length xs → test (get_or xs i 0) ≡ true
all_at test [] h i k = absurd (omega (arith, k))
all_at test (x ∷ xs) h zero k = (and_parts (test x) (list_all test xs) h).0
all_at test (x ∷ xs) h (suc i) k = all_at test xs (and_parts (test x) (list_all test xs) h).1 i (omega (arith, k))

module _ (l : Plain) (rows : List (List ℕ)) (sweep : Sweep) (sound : IsSound l) (are : AreRows l rows) where
  abbrev place : ℕ → ℕ
  place u = place_of l rows u

  abbrev chosen_now : List ℕ → ℕ → List ℕ
  chosen_now chosen u = chosen_at l rows sweep chosen u

  -- a link that a visit takes ends at the visited unit
  pub of_unit : (u k : ℕ) → 1 ≤ occurs k (sorted_links l rows sweep u) → (k < length l.links) × (near_end sweep (link_at l.links k) ≡ u)
  of_unit u k h =
      let test : ℕ → Bool = λ j. near_end sweep (link_at l.links j) == u in
      let all : List ℕ = range_with_len 0 (length l.links) in
      let le : ℕ → ℕ → Bool = λ i j. nat_le (far_key l rows sweep (link_at l.links i)) (far_key l rows sweep (link_at l.links j)) in
      let a = occurs_sorted le (filter test all) k in
      let here : 1 ≤ occurs k (filter test all) = omega (arith, a, h) in
      let few = occurs_among test all k in
      let r = occurs_range 0 (length l.links) k (omega (arith, here, few)) in
      (omega (arith, r), eqb-true _ _ (occurs_passes test all k here))

  -- what was visited before a unit lies before it in its row
  abbrev pub ComesAfter : List ℕ → ℕ → Type 0
  ComesAfter done u = (v : ℕ) → 1 ≤ occurs v done → layer_of l v ≡ layer_of l u → is_beyond sweep (place u) (place v) ≡ true

  abbrev pub IsVisitOrder : List ℕ → List ℕ → Type 0
  IsVisitOrder done [] = ⊤
  IsVisitOrder done (u ∷ us) = ComesAfter done u × IsVisitOrder (u ∷ done) us

  pub record IsChosenSoFar (done chosen : List ℕ) : Type 0 where
    pub known : (j : ℕ) → j < length chosen → get_or chosen j 0 < length l.links
    pub near : (j : ℕ) → j < length chosen → 1 ≤ occurs (near_end sweep (chosen_link l chosen j)) done
    pub beside : (i j : ℕ) → i < j → j < length chosen → gap_of l (chosen_link l chosen i) ≡ gap_of l (chosen_link l chosen j) → RunsBeside l rows (chosen_link l chosen i) (chosen_link l chosen j)

  -- both ends beyond in the direction of the visits: the links run beside one another
  beyond_both : (s : Sweep) (a b : Link) → is_beyond s (place (near_end s b)) (place (near_end s a)) ≡ true → is_beyond s (place (far_end s b)) (place (far_end s a)) ≡ true → RunsBeside l rows a b
  beyond_both LeftUp a b near far = inl (ltb-true _ _ far, ltb-true _ _ near)
  beyond_both LeftDown a b near far = inr (ltb-true _ _ far, ltb-true _ _ near)
  beyond_both RightUp a b near far = inl (ltb-true _ _ near, ltb-true _ _ far)
  beyond_both RightDown a b near far = inr (ltb-true _ _ near, ltb-true _ _ far)

  pub same_near : (s : Sweep) (j k : ℕ) → j < length l.links → k < length l.links → gap_of l (link_at l.links j) ≡ gap_of l (link_at l.links k) → layer_of l (near_end s (link_at l.links j)) ≡ layer_of l (near_end s (link_at l.links k))
  same_near LeftUp j k hj hk e = let a = (sound.links_are j hj).next_layer in let b = (sound.links_are k hk).next_layer in omega (arith, a, b, e)
  same_near LeftDown j k hj hk e = let a = (sound.links_are j hj).next_layer in let b = (sound.links_are k hk).next_layer in omega (arith, a, b, e)
  same_near RightUp j k hj hk e = e
  same_near RightDown j k hj hk e = e

  abbrev pub apart_from : Link → ℕ → Bool
  apart_from m j =
      not (far_end sweep (link_at l.links j) == far_end sweep m)
      && (not (gap_of l (link_at l.links j) == gap_of l m)
      || is_beyond sweep (far_place l rows sweep m) (far_place l rows sweep (link_at l.links j)))

  -- a free link lies beyond the chosen links of its gap
  free_beyond : (chosen : List ℕ) (k : ℕ) → is_free l rows sweep chosen k ≡ true → (i : ℕ) → i < length chosen → gap_of l (chosen_link l chosen i) ≡ gap_of l (link_at l.links k)
      → is_beyond sweep (place (far_end sweep (link_at l.links k))) (place (far_end sweep (chosen_link l chosen i))) ≡ true
  free_beyond chosen k free i h gap =
      let m = link_at l.links k in
      let other = chosen_link l chosen i in
      let parts = and_parts (not (is_marked l rows m)) (list_all (apart_from m) chosen) free in
      let here = all_at (apart_from m) chosen parts.1 i h in
      let second : (not (gap_of l other == gap_of l m) || is_beyond sweep (place (far_end sweep m)) (place (far_end sweep other))) ≡ true =
      (and_parts (not (far_end sweep other == far_end sweep m)) (not (gap_of l other == gap_of l m) || is_beyond sweep (place (far_end sweep m)) (place (far_end sweep other))) here).1 in
      rw (eq-eqb (gap_of l other) (gap_of l m) gap) at second

  pub chosen_more : (done chosen : List ℕ) (u k : ℕ) → ComesAfter done u → IsChosenSoFar done chosen → k < length l.links → near_end sweep (link_at l.links k) ≡ u → is_free l rows sweep chosen k ≡ true → IsChosenSoFar (u ∷ done) (chosen ++ k ∷ [])
  chosen_more done chosen u k after so hk near_is free =
      let last : get_or (chosen ++ k ∷ []) (length chosen) 0 ≡ k = get_or-append-here in
      let old : (j : ℕ) → j < length chosen → get_or (chosen ++ k ∷ []) j 0 ≡ get_or chosen j 0 = λ j h. get_or_append_left chosen (k ∷ []) 0 j h in
      let long : length (chosen ++ k ∷ []) ≡ length chosen + 1 = length-append chosen (k ∷ []) in
      record {
        known = λ j h. elim (cases_eq j (length chosen)) [
          | inl e ↦ rw (e, last) hk
          | inr ne ↦ let hj : j < length chosen = omega (arith, h, long, ne) in rw (old j hj) (so.known j hj)
        ];
        near = λ j h. elim (cases_eq j (length chosen)) [
          | inl e ↦
              let is : near_end sweep (chosen_link l (chosen ++ k ∷ []) j) ≡ u =
              ap (λ i. near_end sweep (chosen_link l (chosen ++ k ∷ []) i)) e ∙ ap (λ i. near_end sweep (link_at l.links i)) last ∙ near_is in
              subst (λ x. 1 ≤ occurs x (u ∷ done)) (sym is) (occurs_first u done)
          | inr ne ↦
              let hj : j < length chosen = omega (arith, h, long, ne) in
              let n : 1 ≤ occurs (near_end sweep (chosen_link l chosen j)) (u ∷ done) = let n = so.near j hj in omega (arith, n) in
              subst (λ i. 1 ≤ occurs (near_end sweep (link_at l.links i)) (u ∷ done)) (sym (old j hj)) n
        ];
        beside = λ i j less h. elim (cases_eq j (length chosen)) [
          | inl e ↦
              let hi : i < length chosen = omega (arith, e, less) in
              rw (e, last, old i hi) (λ gap.
              let near_same = same_near sweep (get_or chosen i 0) k (so.known i hi) hk gap in
              let near_beyond = after (near_end sweep (chosen_link l chosen i)) (so.near i hi) (near_same ∙ ap (layer_of l) near_is) in
              beyond_both sweep (chosen_link l chosen i) (link_at l.links k)
              (subst (λ x. is_beyond sweep (place x) (place (near_end sweep (chosen_link l chosen i))) ≡ true) (sym near_is) near_beyond)
              (free_beyond chosen k free i hi gap))
          | inr ne ↦
              let hj : j < length chosen = omega (arith, h, long, ne) in
              let hi : i < length chosen = omega (arith, hj, less) in
              rw (old j hj, old i hi) (so.beside i j less hj)
        ];
      }
    where
      get_or-append-here : get_or (chosen ++ k ∷ []) (length chosen) 0 ≡ k
      get_or-append-here = let none : length chosen - length chosen ≡ 0 = omega arith in get_or-append_right chosen (k ∷ []) (length chosen) (length chosen) 0 refl (omega arith) ∙ ap (λ i. get_or (k ∷ []) i 0) none

  pub chosen_same : (done chosen : List ℕ) (u : ℕ) → IsChosenSoFar done chosen → IsChosenSoFar (u ∷ done) chosen
  chosen_same done chosen u so =
      record { known = so.known; near = λ j h. let n = so.near j h in omega (arith, n); beside = so.beside }

  chosen_through : (us done chosen : List ℕ) → IsVisitOrder done us → IsChosenSoFar done chosen → AreStraight l rows (chosen_after l rows sweep chosen us)
  chosen_through [] done chosen order so = record { known = so.known; beside = so.beside }
  chosen_through (u ∷ us) done chosen order so =
      elim (first_cases (is_free l rows sweep chosen) (medians_in (goes_up sweep) (sorted_links l rows sweep u))) [
        | inl none ↦ rw none (chosen_through us (u ∷ done) (chosen ++ []) order.1 (rw (append-nil chosen) (chosen_same done chosen u so)))
        | inr p ↦
            let is = of_unit u p.0 (occurs_medians (goes_up sweep) (sorted_links l rows sweep u) p.0 p.1.is_there) in
            rw p.1.is_first (chosen_through us (u ∷ done) (chosen ++ p.0 ∷ []) order.1
            (chosen_more done chosen u p.0 order.0 so is.0 is.1 p.1.does_pass))
      ]

  -- the visits go through whole rows, each from one end

  abbrev IsAscending : List ℕ → Type 0
  IsAscending xs = (i j : ℕ) → i < j → j < length xs → is_beyond sweep (place (get_or xs j 0)) (place (get_or xs i 0)) ≡ true

  order_row : (xs done ys : List ℕ) → IsAscending xs
      → ((v : ℕ) → 1 ≤ occurs v done → (i : ℕ) → i < length xs → layer_of l v ≡ layer_of l (get_or xs i 0) → is_beyond sweep (place (get_or xs i 0)) (place v) ≡ true)
      → ((done' : List ℕ) → ((v : ℕ) → 1 ≤ occurs v done' → (1 ≤ occurs v done) ⊎ (1 ≤ occurs v xs)) → IsVisitOrder done' ys)
      → IsVisitOrder done (xs ++ ys)
  order_row [] done ys up after rest = rest done (λ v h. inl h)
  order_row (x ∷ xs) done ys up after rest = (
    λ v h e. after v h 0 (omega arith) e,
    order_row xs (x ∷ done) ys (λ i j less k. up (suc i) (suc j) (omega (arith, less)) (omega (arith, k)))
        (λ v h i k e. elim (cases_eq x v) [
          | inl is ↦ subst (λ w. is_beyond sweep (place (get_or xs i 0)) (place w) ≡ true) is (up 0 (suc i) (omega arith) (omega (arith, k)))
          | inr ne ↦
              let q : 1 ≤ cond (x == v) 1 0 + occurs v done = h in
              let o = rw (ne_eqb x v ne) at q in
              after v (omega (arith, o)) (suc i) (omega (arith, k)) e
        ])
        (λ done' from. rest done' (λ v h. elim (from v h) [
          | inl old ↦ elim (cases_eq x v) [
            | inl is ↦ inr (subst (λ w. 1 ≤ occurs w (x ∷ xs)) is (occurs_first x xs))
            | inr ne ↦
                let q : 1 ≤ cond (x == v) 1 0 + occurs v done = old in
                let o = rw (ne_eqb x v ne) at q in
                inl (omega (arith, o))
          ]
          | inr new ↦ inr (omega (arith, new))
        ])),
  )

  row_ascends : (g : ℕ) → g < length rows → IsAscending (visited_row sweep (row_at rows g))
  row_ascends g h = ascends_by sweep
    where
      at : (i : ℕ) → i < length (row_at rows g) → place (get_or (row_at rows g) i 0) ≡ i
      at i k = ap (λ r. place_in (row_at rows r) (get_or (row_at rows g) i 0)) (are.in_layer g h i k) ∙ place_at (row_at rows g) (are.once g h) i k

      upward : (i j : ℕ) → i < j → j < length (row_at rows g) → nat_lt (place (get_or (row_at rows g) i 0)) (place (get_or (row_at rows g) j 0)) ≡ true
      upward i j less k =
          let a = at i (omega (arith, less, k)) in
          let b = at j k in
          lt-ltb _ _ (omega (arith, a, b, less))

      downward : (i j : ℕ) → i < j → j < length (reverse (row_at rows g)) → nat_lt (place (get_or (reverse (row_at rows g)) j 0)) (place (get_or (reverse (row_at rows g)) i 0)) ≡ true
      downward i j less k =
          let long = length-reverse (row_at rows g) in
          let hj : j < length (row_at rows g) = omega (arith, k, long) in
          let hi : i < length (row_at rows g) = omega (arith, hj, less) in
          rw (get_or-reverse (row_at rows g) j 0 hj, get_or-reverse (row_at rows g) i 0 hi)
          (upward (length (row_at rows g) - 1 - j) (length (row_at rows g) - 1 - i) (omega (arith, less, hj)) (omega (arith, hj)))

      ascends_by : (s : Sweep) → (i j : ℕ) → i < j → j < length (visited_row s (row_at rows g)) → is_beyond s (place (get_or (visited_row s (row_at rows g)) j 0)) (place (get_or (visited_row s (row_at rows g)) i 0)) ≡ true
      ascends_by LeftUp = upward
      ascends_by RightUp = upward
      ascends_by LeftDown = downward
      ascends_by RightDown = downward

  row_layer : (s : Sweep) (g : ℕ) → g < length rows → (i : ℕ) → i < length (visited_row s (row_at rows g)) → layer_of l (get_or (visited_row s (row_at rows g)) i 0) ≡ g
  row_layer LeftUp g h i k = are.in_layer g h i k
  row_layer RightUp g h i k = are.in_layer g h i k
  row_layer LeftDown g h i k =
      let long = length-reverse (row_at rows g) in
      let hi : i < length (row_at rows g) = omega (arith, k, long) in
      rw (get_or-reverse (row_at rows g) i 0 hi) (are.in_layer g h _ (omega (arith, hi)))
  row_layer RightDown g h i k =
      let long = length-reverse (row_at rows g) in
      let hi : i < length (row_at rows g) = omega (arith, k, long) in
      rw (get_or-reverse (row_at rows g) i 0 hi) (are.in_layer g h _ (omega (arith, hi)))

  -- the rows that a sweep goes through, by the layer of each
  order_rows : (rs : List (List ℕ)) (layer : ℕ → ℕ) (done : List ℕ)
      → ((i : ℕ) → i < length rs → (row_at rs i ≡ row_at rows (layer i)) × (layer i < length rows))
      → ((i j : ℕ) → i < j → j < length rs → layer i ≢ layer j)
      → ((v : ℕ) → 1 ≤ occurs v done → (i : ℕ) → i < length rs → layer_of l v ≢ layer i)
      → IsVisitOrder done (concat (map (visited_row sweep) rs))
  order_rows [] layer done is differ apart = tt
  order_rows (row ∷ rs) layer done is differ apart =
      let here = is 0 (omega arith) in
      let row_is : row ≡ row_at rows (layer 0) = here.0 in
      let up : IsAscending (visited_row sweep row) = rw row_is (row_ascends (layer 0) here.1) in
      let in_layer : (i : ℕ) → i < length (visited_row sweep row) → layer_of l (get_or (visited_row sweep row) i 0) ≡ layer 0 = rw row_is (row_layer sweep (layer 0) here.1) in
      order_row (visited_row sweep row) done (concat (map (visited_row sweep) rs)) up
      (λ v h i k e. absurd (apart v h 0 (omega arith) (e ∙ in_layer i k)))
      (λ done' from. order_rows rs (λ i. layer (suc i)) done'
      (λ i k. is (suc i) (omega (arith, k)))
      (λ i j less k. differ (suc i) (suc j) (omega (arith, less)) (omega (arith, k)))
      (λ v h i k e. elim (from v h) [
        | inl old ↦ apart v old (suc i) (omega (arith, k)) e
        | inr new ↦
            let at = in_layer (place_in (visited_row sweep row) v) (place_below v (visited_row sweep row) new) in
            let is_v : layer_of l v ≡ layer 0 = ap (layer_of l) (sym (place_reads v (visited_row sweep row) new)) ∙ at in
            differ 0 (suc i) (omega arith) (omega (arith, k)) (sym is_v ∙ e)
      ]))

  abbrev rows_visited : List (List ℕ) → Type 0
  rows_visited rs = IsVisitOrder [] (concat (map (visited_row sweep) rs))

  to_right : rows_visited (drop 1 rows)
  to_right =
      let long = length-drop 1 rows in
      order_rows (drop 1 rows) (λ i. 1 + i) []
      (λ i k. (get_or-drop 1 rows i [], omega (arith, k, long)))
      (λ i j less k e. omega (arith, less, e))
      (λ v h i k e. omega (arith, h))

  to_left : rows_visited (drop 1 (reverse rows))
  to_left =
      let long : length (drop 1 (reverse rows)) ≡ length (reverse rows) - 1 = length-drop 1 (reverse rows) in
      let same : length (reverse rows) ≡ length rows = length-reverse rows in
      order_rows (drop 1 (reverse rows)) (λ i. length rows - 1 - (1 + i)) []
      (λ i k. (get_or-drop 1 (reverse rows) i [] ∙ get_or-reverse rows (1 + i) [] (omega (arith, k, long, same)), omega (arith, k, long, same)))
      (λ i j less k e. omega (arith, less, e, k, long, same))
      (λ v h i k e. omega (arith, h))

  pub visits_in_order : (s : Sweep) → goes_left s ≡ goes_left sweep → IsVisitOrder [] (concat (map (visited_row sweep) (cond (goes_left s) (drop 1 rows) (drop 1 (reverse rows)))))
  visits_in_order LeftUp e = to_right
  visits_in_order LeftDown e = to_right
  visits_in_order RightUp e = to_left
  visits_in_order RightDown e = to_left

  pub aligned_straight : AreStraight l rows (aligned l rows sweep)
  aligned_straight =
      chosen_through (visits sweep rows) [] [] (visits_in_order sweep refl)
      (record { known = λ j h. absurd (omega (arith, h)); near = λ j h. absurd (omega (arith, h)); beside = λ i j less h. absurd (omega (arith, h)) })
