-- Links between lanes that don't cross are chosen by every sweep.
use Rattle.std.proofs.Common.{◌≡◌, ◌≢◌, ℕ, zero, suc, ◌+◌, ◌-◌, ◌*◌, ◌<◌, ◌≤◌, ◌==◌, ◌&&◌, ◌||◌, cond, not, nat_lt, nat_le, List, [], ◌∷◌, ◌++◌, length, map, drop, reverse, get_or, Bool, true, false, arith, refl, sym, ◌∙◌, ap, subst, inl, inr, ◌⊎◌, eq-eqb, ne_eqb, lt-ltb, ltb-true}
use Rattle.std.specs.List.{filter, list_all, list_any, concat, range_with_len}
use Rattle.std.proofs.lemmas.Bool.{cases_eq, cases_lt, cases_Bool, and_parts, and_from}
use Rattle.std.proofs.lemmas.List.{get_or-reverse, length-reverse, get_or-drop, length-drop, length-append, append-nil, get_or_append_left, get_or-append_right}
use Rattle.elk_layers.specs.declared.units.Link.{Link}
use Rattle.drawing_types.specs.declared.sweep.Sweep.{Sweep}
use Rattle.drawing_types.specs.declared.sweep.Sweep.TheVariants.{LeftUp, LeftDown, RightUp, RightDown}
use Rattle.elk_layers.specs.Layered.{Plain, IsSound, AreRows, layer_of, row_at, link_at, gap_of, place_of, place_in, is_lane, tail_key, head_key}
use Rattle.elk_layers.specs.Crossings.{cross}
use Rattle.elk_layers.specs.Alignment.{goes_left, goes_up, near_end, far_end, visited_row, visits, sorted_links, medians_in, is_beyond, is_free, is_marked, is_inner, far_key, first_of, chosen_at, chosen_after, aligned}
use Rattle.elk_layers.specs.Occurring.{occurs}
use Rattle.elk_layers.specs.Straight.{chosen_link}
use Rattle.elk_layers.proofs.OccursLemmas.{occurs_first, occurs_at, occurs_sorted, occurs-append}
use Rattle.elk_layers.proofs.PlaceLemmas.{place_below, place_reads}
use Rattle.bk_place.specs.Lanes.{HaveOneLink, LanesKeepOrder, Holds}
use Rattle.bk_place.proofs.StraightLemmas.{first_cases, occurs_medians, ComesAfter, IsVisitOrder, IsChosenSoFar, of_unit, same_near, chosen_more, chosen_same, visits_in_order, apart_from}

-- truth values

or_true : (a : Bool) → (a || true) ≡ true
or_true true = refl
or_true false = refl

cross_first : (g t h x : Bool) → g ≡ true → t ≡ true → h ≡ true → (g && ((t && h) || x)) ≡ true
cross_first g t h x a b c = rw (a, b, c) refl

cross_second : (g x t h : Bool) → g ≡ true → t ≡ true → h ≡ true → (g && (x || (t && h))) ≡ true
cross_second g x t h a b c = rw (a, b, c) (or_true x)

clash : {b : Bool} → b ≡ false → b ≡ true → ⊥
clash f t = true_false (sym t ∙ f)
  where
    true_false : true ≡ false → ⊥
    true_false e = cc

all_from : (test : ℕ → Bool) (xs : List ℕ) → ((i : ℕ) → i < length xs → test (get_or xs i 0) ≡ true) → list_all test xs ≡ true
all_from test [] h = refl
all_from test (x ∷ xs) h = and_from (test x) (list_all test xs) (h 0 (omega arith)) (all_from test xs (λ i k. h (suc i) (omega (arith, k))))

any_from : {X : Type 0} (test : X → Bool) (d : X) (xs : List X) (i : ℕ) → i < length xs → test (get_or xs i d) ≡ true → list_any test xs ≡ true
any_from test d [] i h t = absurd (omega (arith, h))
any_from test d (x ∷ xs) zero h t = rw t refl
any_from test d (x ∷ xs) (suc i) h t = rw (any_from test d xs i (omega (arith, h)) t) (or_true (test x))

-- members of lists

occurs_kept : (test : ℕ → Bool) (xs : List ℕ) (n : ℕ) → test n ≡ true → occurs n xs ≤ occurs n (filter test xs)
occurs_kept test [] n t = omega arith
occurs_kept test (x ∷ xs) n t = let h = occurs_kept test xs n t in elim (cases_Bool (test x)) [
  | inl y ↦ rw y (omega (arith, h))
  | inr f ↦ elim (cases_eq x n) [
    | inl e ↦ absurd (clash (subst (λ z. test z ≡ false) e f) t)
    | inr ne ↦ rw (f, ne_eqb x n ne) (omega (arith, h))
  ]
]

range_has : (a m n : ℕ) → a ≤ n → n < a + m → 1 ≤ occurs n (range_with_len a m)
range_has a zero n low high = absurd (omega (arith, low, high))
range_has a (suc m) n low high = elim (cases_eq a n) [
  | inl e ↦ rw (eq-eqb a n e) (omega arith)
  | inr ne ↦ let h = range_has (a + 1) m n (omega (arith, low, ne)) (omega (arith, high)) in omega (arith, h)
]

not_empty : (xs : List ℕ) (n : ℕ) → 1 ≤ occurs n xs → 1 ≤ length xs
not_empty [] n h = absurd (omega (arith, h))
not_empty (x ∷ xs) n h = omega arith

medians_some : (up : Bool) (xs : List ℕ) → 1 ≤ length xs → 1 ≤ length (medians_in up xs)
medians_some up [] h = absurd (omega (arith, h))
medians_some true (x ∷ xs) h = omega arith
medians_some false (x ∷ xs) h = omega arith

-- the only member, where it passes, is the first that does
first_only : (passes : ℕ → Bool) (ks : List ℕ) (k : ℕ) → passes k ≡ true → 1 ≤ length ks → ((n : ℕ) → 1 ≤ occurs n ks → n ≡ k) → first_of passes ks ≡ k ∷ []
first_only passes [] k p long only = absurd (omega (arith, long))
first_only passes (m ∷ ks) k p long only = rw (only m (occurs_first m ks), p) refl

occurs_concat : (f : List ℕ → List ℕ) (rs : List (List ℕ)) (i n : ℕ) → i < length rs → 1 ≤ occurs n (f (row_at rs i)) → 1 ≤ occurs n (concat (map f rs))
occurs_concat f [] i n h o = absurd (omega (arith, h))
occurs_concat f (r ∷ rs) zero n h o = let a = occurs-append n (f r) (concat (map f rs)) in omega (arith, a, o)
occurs_concat f (r ∷ rs) (suc i) n h o =
    let a = occurs-append n (f r) (concat (map f rs)) in
    let b = occurs_concat f rs i n (omega (arith, h)) o in
    omega (arith, a, b)

occurs_reverse : (xs : List ℕ) (n : ℕ) → 1 ≤ occurs n xs → 1 ≤ occurs n (reverse xs)
occurs_reverse xs n h =
    let p = place_in xs n in
    let inside : p < length xs = place_below n xs h in
    let long = length-reverse xs in
    let at : get_or (reverse xs) (length xs - 1 - p) 0 ≡ n =
    get_or-reverse xs (length xs - 1 - p) 0 (omega (arith, inside)) ∙ ap (λ i. get_or xs i 0) (flipped (length xs) p inside) ∙ place_reads n xs h in
    subst (λ x. 1 ≤ occurs x (reverse xs)) at (occurs_at (reverse xs) (length xs - 1 - p) (omega (arith, inside, long)))
  where
    flipped : (m p : ℕ) → p < m → m - 1 - (m - 1 - p) ≡ p
    flipped m p h = omega (arith, h)

visited_has : (s : Sweep) (xs : List ℕ) (n : ℕ) → 1 ≤ occurs n xs → 1 ≤ occurs n (visited_row s xs)
visited_has LeftUp xs n h = h
visited_has RightUp xs n h = h
visited_has LeftDown xs n h = occurs_reverse xs n h
visited_has RightDown xs n h = occurs_reverse xs n h

-- places

less_key : (a b r s : ℕ) → r < 65536 → s < 65536 → nat_lt a b ≡ true → nat_lt (a * 65536 + r) (b * 65536 + s) ≡ true
less_key a b r s hr hs h = let k = ltb-true a b h in lt-ltb _ _ (omega (arith, k, hr, hs))

not_beyond_itself : (s : Sweep) (a : ℕ) → is_beyond s a a ≡ true → ⊥
not_beyond_itself LeftUp a h = let k = ltb-true a a h in omega (arith, k)
not_beyond_itself LeftDown a h = let k = ltb-true a a h in omega (arith, k)
not_beyond_itself RightUp a h = let k = ltb-true a a h in omega (arith, k)
not_beyond_itself RightDown a h = let k = ltb-true a a h in omega (arith, k)

less_or_more : (a b : ℕ) → a ≢ b → (nat_lt a b ≡ true) ⊎ (nat_lt b a ≡ true)
less_or_more a b ne = elim (cases_lt a b) [
  | inl h ↦ inl (lt-ltb a b h)
  | inr h ↦ inr (lt-ltb b a (omega (arith, ne, h)))
]

one_is_beyond : (s : Sweep) (a b : ℕ) → a ≢ b → (is_beyond s a b ≡ true) ⊎ (is_beyond s b a ≡ true)
one_is_beyond LeftUp a b ne = less_or_more b a (λ e. ne (sym e))
one_is_beyond RightUp a b ne = less_or_more b a (λ e. ne (sym e))
one_is_beyond LeftDown a b ne = less_or_more a b ne
one_is_beyond RightDown a b ne = less_or_more a b ne

module _ (l : Plain) (rows : List (List ℕ)) (sweep : Sweep) (sound : IsSound l) (are : AreRows l rows) (one : HaveOneLink l) (order : LanesKeepOrder l rows) where
  abbrev place : ℕ → ℕ
  place u = place_of l rows u

  abbrev link : ℕ → Link
  link k = link_at l.links k

  stands : (u : ℕ) → u < length l.units → 1 ≤ occurs u (row_at rows (layer_of l u))
  stands u h =
      let a = are.complete u h in
      subst (λ x. 1 ≤ occurs x (row_at rows (layer_of l u))) a.unit_is (occurs_at (row_at rows (layer_of l u)) a.place a.within)

  same_unit : (u v : ℕ) → u < length l.units → v < length l.units → layer_of l u ≡ layer_of l v → place u ≡ place v → u ≡ v
  same_unit u v hu hv layers places =
      sym (place_reads u (row_at rows (layer_of l u)) (stands u hu))
      ∙ ap (λ i. get_or (row_at rows (layer_of l u)) i 0) places
      ∙ ap (λ g. get_or (row_at rows g) (place v) 0) layers
      ∙ place_reads v (row_at rows (layer_of l v)) (stands v hv)

  far_in : (s : Sweep) (k : ℕ) → k < length l.links → far_end s (link k) < length l.units
  far_in LeftUp k h = (sound.links_are k h).tail
  far_in LeftDown k h = (sound.links_are k h).tail
  far_in RightUp k h = (sound.links_are k h).head
  far_in RightDown k h = (sound.links_are k h).head

  same_far : (s : Sweep) (j k : ℕ) → j < length l.links → k < length l.links → gap_of l (link j) ≡ gap_of l (link k) → layer_of l (far_end s (link j)) ≡ layer_of l (far_end s (link k))
  same_far LeftUp j k hj hk e = e
  same_far LeftDown j k hj hk e = e
  same_far RightUp j k hj hk e = let a = (sound.links_are j hj).next_layer in let b = (sound.links_are k hk).next_layer in omega (arith, a, b, e)
  same_far RightDown j k hj hk e = let a = (sound.links_are j hj).next_layer in let b = (sound.links_are k hk).next_layer in omega (arith, a, b, e)

  -- links that share an end with a link between lanes are that link
  one_at_far : (s : Sweep) (j k : ℕ) → j < length l.links → k < length l.links → is_inner l (link k) ≡ true → far_end s (link j) ≡ far_end s (link k) → j ≡ k
  one_at_far LeftUp j k hj hk inner e = one.tails j k hj hk (and_parts (is_lane l (link k).tail) (is_lane l (link k).head) inner).0 e
  one_at_far LeftDown j k hj hk inner e = one.tails j k hj hk (and_parts (is_lane l (link k).tail) (is_lane l (link k).head) inner).0 e
  one_at_far RightUp j k hj hk inner e = one.heads j k hj hk (and_parts (is_lane l (link k).tail) (is_lane l (link k).head) inner).1 e
  one_at_far RightDown j k hj hk inner e = one.heads j k hj hk (and_parts (is_lane l (link k).tail) (is_lane l (link k).head) inner).1 e

  one_at_near : (s : Sweep) (j k : ℕ) → j < length l.links → k < length l.links → is_inner l (link k) ≡ true → near_end s (link j) ≡ near_end s (link k) → j ≡ k
  one_at_near LeftUp j k hj hk inner e = one.heads j k hj hk (and_parts (is_lane l (link k).tail) (is_lane l (link k).head) inner).1 e
  one_at_near LeftDown j k hj hk inner e = one.heads j k hj hk (and_parts (is_lane l (link k).tail) (is_lane l (link k).head) inner).1 e
  one_at_near RightUp j k hj hk inner e = one.tails j k hj hk (and_parts (is_lane l (link k).tail) (is_lane l (link k).head) inner).0 e
  one_at_near RightDown j k hj hk inner e = one.tails j k hj hk (and_parts (is_lane l (link k).tail) (is_lane l (link k).head) inner).0 e

  -- beyond at the near ends, and before at the far ones: the links cross
  tails_less : (j k : ℕ) → j < length l.links → k < length l.links → nat_lt (place (link j).tail) (place (link k).tail) ≡ true → nat_lt (tail_key l rows (link j)) (tail_key l rows (link k)) ≡ true
  tails_less j k hj hk h = less_key (place (link j).tail) (place (link k).tail) (link j).tail_rank (link k).tail_rank (sound.links_are j hj).tail_rank (sound.links_are k hk).tail_rank h

  heads_less : (j k : ℕ) → j < length l.links → k < length l.links → nat_lt (place (link j).head) (place (link k).head) ≡ true → nat_lt (head_key l rows (link j)) (head_key l rows (link k)) ≡ true
  heads_less j k hj hk h = less_key (place (link j).head) (place (link k).head) (link j).head_rank (link k).head_rank (sound.links_are j hj).head_rank (sound.links_are k hk).head_rank h

  crosses : (s : Sweep) (j k : ℕ) → j < length l.links → k < length l.links → gap_of l (link j) ≡ gap_of l (link k)
      → is_beyond s (place (near_end s (link k))) (place (near_end s (link j))) ≡ true → is_beyond s (place (far_end s (link j))) (place (far_end s (link k))) ≡ true
      → cross l rows (link j) (link k) ≡ true
  crosses LeftUp j k hj hk e near far = cross_second _ _ _ _ (eq-eqb _ _ e) (tails_less k j hk hj far) (heads_less j k hj hk near)
  crosses LeftDown j k hj hk e near far = cross_first _ _ _ _ (eq-eqb _ _ e) (tails_less j k hj hk far) (heads_less k j hk hj near)
  crosses RightUp j k hj hk e near far = cross_first _ _ _ _ (eq-eqb _ _ e) (tails_less j k hj hk near) (heads_less k j hk hj far)
  crosses RightDown j k hj hk e near far = cross_second _ _ _ _ (eq-eqb _ _ e) (tails_less k j hk hj near) (heads_less j k hj hk far)

  abbrev Unmarked : List ℕ → Type 0
  Unmarked chosen = (i : ℕ) → i < length chosen → is_marked l rows (chosen_link l chosen i) ≡ false

  -- an unmarked link does not cross a link between lanes
  no_cross : (j k : ℕ) → j < length l.links → k < length l.links → is_marked l rows (link j) ≡ false → is_inner l (link k) ≡ true → cross l rows (link j) (link k) ≡ true → ⊥
  no_cross j k hj hk un inner x = elim (cases_Bool (is_inner l (link j))) [
    | inl t ↦ clash (order j k hj hk t inner) x
    | inr f ↦
        let test : Link → Bool = λ other. is_inner l other && cross l rows (link j) other in
        let any : list_any test l.links ≡ true = any_from test _ l.links k hk (and_from (is_inner l (link k)) (cross l rows (link j) (link k)) inner x) in
        clash un (and_from (not (is_inner l (link j))) (list_any test l.links) (rw f refl) any)
  ]

  -- a link between lanes is free when its near end is visited
  lane_is_free : (done chosen : List ℕ) (k : ℕ) → k < length l.links → is_inner l (link k) ≡ true
      → ComesAfter l rows sweep sound are done (near_end sweep (link k)) → IsChosenSoFar l rows sweep sound are done chosen → Unmarked chosen
      → is_free l rows sweep chosen k ≡ true
  lane_is_free done chosen k hk inner after so un =
      and_from (not (is_marked l rows (link k))) (list_all (apart_from l rows sweep sound are (link k)) chosen)
      (unmarked (is_inner l (link k)) _ inner)
      (all_from (apart_from l rows sweep sound are (link k)) chosen (λ i h. apart i h))
    where
      unmarked : (a b : Bool) → a ≡ true → not (not a && b) ≡ true
      unmarked a b p = rw p refl

      number : ℕ → ℕ
      number i = get_or chosen i 0

      not_same : (i : ℕ) → i < length chosen → number i ≢ k
      not_same i h e =
          let o : 1 ≤ occurs (near_end sweep (link (number i))) done = so.near i h in
          let same : near_end sweep (link (number i)) ≡ near_end sweep (link k) = ap (λ j. near_end sweep (link j)) e in
          not_beyond_itself sweep (place (near_end sweep (link k)))
          (subst (λ v. is_beyond sweep (place (near_end sweep (link k))) (place v) ≡ true) same (after (near_end sweep (link (number i))) o (ap (layer_of l) same)))

      other_far : (i : ℕ) → i < length chosen → far_end sweep (link (number i)) ≢ far_end sweep (link k)
      other_far i h e = not_same i h (one_at_far sweep (number i) k (so.known i h) hk inner e)

      is_past : (i : ℕ) → i < length chosen → gap_of l (link (number i)) ≡ gap_of l (link k)
          → is_beyond sweep (place (far_end sweep (link k))) (place (far_end sweep (link (number i)))) ≡ true
      is_past i h gap =
          let known = so.known i h in
          elim (cases_eq (place (far_end sweep (link k))) (place (far_end sweep (link (number i))))) [
            | inl e ↦ absurd (other_far i h (same_unit _ _ (far_in sweep (number i) known) (far_in sweep k hk) (same_far sweep (number i) k known hk gap) (sym e)))
            | inr ne ↦ elim (one_is_beyond sweep _ _ ne) [
              | inl t ↦ t
              | inr x ↦
                  let layers = same_near l rows sweep sound are sweep (number i) k known hk gap in
                  let near = after (near_end sweep (link (number i))) (so.near i h) layers in
                  absurd (no_cross (number i) k known hk (un i h) inner (crosses sweep (number i) k known hk gap near x))
            ]
          ]

      apart : (i : ℕ) → i < length chosen → apart_from l rows sweep sound are (link k) (number i) ≡ true
      apart i h =
          and_from (not (far_end sweep (link (number i)) == far_end sweep (link k))) _
          (rw (ne_eqb (far_end sweep (link (number i))) (far_end sweep (link k)) (other_far i h)) refl)
          (elim (cases_eq (gap_of l (link (number i))) (gap_of l (link k))) [
            | inl e ↦ rw (is_past i h e) (or_true _)
            | inr ne ↦ rw (ne_eqb (gap_of l (link (number i))) (gap_of l (link k)) ne) refl
          ])

  -- the visit of its near end chooses a link between lanes
  lane_is_taken : (chosen : List ℕ) (k : ℕ) → k < length l.links → is_inner l (link k) ≡ true → is_free l rows sweep chosen k ≡ true
      → chosen_at l rows sweep chosen (near_end sweep (link k)) ≡ k ∷ []
  lane_is_taken chosen k hk inner free =
      first_only (is_free l rows sweep chosen) (medians_in (goes_up sweep) (sorted_links l rows sweep u)) k free
      (medians_some (goes_up sweep) (sorted_links l rows sweep u) (not_empty (sorted_links l rows sweep u) k there))
      (λ n h.
      let is = of_unit l rows sweep sound are u n (occurs_medians (goes_up sweep) (sorted_links l rows sweep u) n h) in
      one_at_near sweep n k is.0 hk inner is.1)
    where
      u : ℕ
      u = near_end sweep (link k)

      there : 1 ≤ occurs k (sorted_links l rows sweep u)
      there =
          let test : ℕ → Bool = λ j. near_end sweep (link_at l.links j) == u in
          let all : List ℕ = range_with_len 0 (length l.links) in
          let le : ℕ → ℕ → Bool = λ i j. nat_le (far_key l rows sweep (link_at l.links i)) (far_key l rows sweep (link_at l.links j)) in
          let a = occurs_sorted le (filter test all) k in
          let b = occurs_kept test all k (eq-eqb _ _ refl) in
          let c = range_has 0 (length l.links) k (omega arith) (omega (arith, hk)) in
          omega (arith, a, b, c)

  stays : (k : ℕ) (us chosen : List ℕ) → 1 ≤ occurs k chosen → 1 ≤ occurs k (chosen_after l rows sweep chosen us)
  stays k [] chosen h = h
  stays k (u ∷ us) chosen h =
      let a = occurs-append k chosen (chosen_at l rows sweep chosen u) in
      stays k us (chosen ++ chosen_at l rows sweep chosen u) (omega (arith, a, h))

  unmarked_more : (chosen : List ℕ) (k : ℕ) → Unmarked chosen → is_free l rows sweep chosen k ≡ true → Unmarked (chosen ++ k ∷ [])
  unmarked_more chosen k un free i h =
      let long : length (chosen ++ k ∷ []) ≡ length chosen + 1 = length-append chosen (k ∷ []) in
      elim (cases_eq i (length chosen)) [
        | inl e ↦
            let none : length chosen - length chosen ≡ 0 = omega arith in
            let last : get_or (chosen ++ k ∷ []) (length chosen) 0 ≡ k =
            get_or-append_right chosen (k ∷ []) (length chosen) (length chosen) 0 refl (omega arith) ∙ ap (λ j. get_or (k ∷ []) j 0) none in
            let free_part = (and_parts (not (is_marked l rows (link k))) (list_all (apart_from l rows sweep sound are (link k)) chosen) free).0 in
            rw (e, last) (is_not (is_marked l rows (link k)) free_part)
        | inr ne ↦
            let hi : i < length chosen = omega (arith, h, long, ne) in
            rw (get_or_append_left chosen (k ∷ []) 0 i hi) (un i hi)
      ]
    where
      is_not : (b : Bool) → not b ≡ true → b ≡ false
      is_not true p = sym p
      is_not false p = refl

  through : (k : ℕ) → k < length l.links → is_inner l (link k) ≡ true → (us done chosen : List ℕ)
      → IsVisitOrder l rows sweep sound are done us → IsChosenSoFar l rows sweep sound are done chosen → Unmarked chosen
      → 1 ≤ occurs (near_end sweep (link k)) us → 1 ≤ occurs k (chosen_after l rows sweep chosen us)
  through k hk inner [] done chosen visit so un h = absurd (omega (arith, h))
  through k hk inner (u ∷ us) done chosen visit so un h = elim (cases_eq u (near_end sweep (link k))) [
    | inl e ↦
        let after : ComesAfter l rows sweep sound are done (near_end sweep (link k)) = subst (ComesAfter l rows sweep sound are done) e visit.0 in
        let taken = lane_is_taken chosen k hk inner (lane_is_free done chosen k hk inner after so un) in
        let here : chosen_at l rows sweep chosen u ≡ k ∷ [] = ap (chosen_at l rows sweep chosen) e ∙ taken in
        let a = occurs-append k chosen (k ∷ []) in
        let b = occurs_first k [] in
        stays k us (chosen ++ chosen_at l rows sweep chosen u) (rw here (omega (arith, a, b)))
    | inr ne ↦
        let later : 1 ≤ occurs (near_end sweep (link k)) us = let q = rw (ne_eqb u (near_end sweep (link k)) ne) at h in omega (arith, q) in
        elim (first_cases (is_free l rows sweep chosen) (medians_in (goes_up sweep) (sorted_links l rows sweep u))) [
          | inl none ↦
              rw none (through k hk inner us (u ∷ done) (chosen ++ []) visit.1
              (rw (append-nil chosen) (chosen_same l rows sweep sound are done chosen u so)) (rw (append-nil chosen) un) later)
          | inr p ↦
              let is = of_unit l rows sweep sound are u p.0 (occurs_medians (goes_up sweep) (sorted_links l rows sweep u) p.0 p.1.is_there) in
              rw p.1.is_first (through k hk inner us (u ∷ done) (chosen ++ p.0 ∷ []) visit.1
              (chosen_more l rows sweep sound are done chosen u p.0 visit.0 so is.0 is.1 p.1.does_pass)
              (unmarked_more chosen p.0 un p.1.does_pass) later)
        ]
  ]

  -- every link's near end is visited
  visited_left : (k : ℕ) → k < length l.links → 1 ≤ occurs (link k).head (concat (map (visited_row sweep) (drop 1 rows)))
  visited_left k hk =
      let s = sound.links_are k hk in
      let u = (link k).head in
      let few = sound.layers_are u s.head in
      let many = are.as_many in
      let next = s.next_layer in
      let long = length-drop 1 rows in
      let here : 1 ≤ occurs u (visited_row sweep (row_at rows (layer_of l u))) = visited_has sweep (row_at rows (layer_of l u)) u (stands u s.head) in
      let row : row_at (drop 1 rows) (layer_of l u - 1) ≡ row_at rows (layer_of l u) =
      get_or-drop 1 rows (layer_of l u - 1) [] ∙ ap (row_at rows) (back (layer_of l u) (omega (arith, next))) in
      occurs_concat (visited_row sweep) (drop 1 rows) (layer_of l u - 1) u (omega (arith, few, many, next, long))
      (subst (λ r. 1 ≤ occurs u (visited_row sweep r)) (sym row) here)
    where
      back : (n : ℕ) → 1 ≤ n → 1 + (n - 1) ≡ n
      back n h = omega (arith, h)

  visited_right : (k : ℕ) → k < length l.links → 1 ≤ occurs (link k).tail (concat (map (visited_row sweep) (drop 1 (reverse rows))))
  visited_right k hk =
      let s = sound.links_are k hk in
      let u = (link k).tail in
      let few = sound.layers_are (link k).head s.head in
      let many = are.as_many in
      let next = s.next_layer in
      let below : layer_of l u + 1 < length rows = omega (arith, few, many, next) in
      let long = length-drop 1 (reverse rows) in
      let same = length-reverse rows in
      let here : 1 ≤ occurs u (visited_row sweep (row_at rows (layer_of l u))) = visited_has sweep (row_at rows (layer_of l u)) u (stands u s.tail) in
      let i = length rows - 2 - layer_of l u in
      let row : row_at (drop 1 (reverse rows)) i ≡ row_at rows (layer_of l u) =
      get_or-drop 1 (reverse rows) i [] ∙ get_or-reverse rows (1 + i) [] (omega (arith, below)) ∙ ap (row_at rows) (back (length rows) (layer_of l u) below) in
      occurs_concat (visited_row sweep) (drop 1 (reverse rows)) i u (omega (arith, below, long, same))
      (subst (λ r. 1 ≤ occurs u (visited_row sweep r)) (sym row) here)
    where
      back : (n m : ℕ) → m + 1 < n → n - 1 - (1 + (n - 2 - m)) ≡ m
      back n m h = omega (arith, h)

  visited : (s : Sweep) (k : ℕ) → k < length l.links
      → 1 ≤ occurs (near_end s (link k)) (concat (map (visited_row sweep) (cond (goes_left s) (drop 1 rows) (drop 1 (reverse rows)))))
  visited LeftUp = visited_left
  visited LeftDown = visited_left
  visited RightUp = visited_right
  visited RightDown = visited_right

  pub lanes_are_chosen : (k : ℕ) → k < length l.links → is_inner l (link k) ≡ true → Holds (aligned l rows sweep) k
  lanes_are_chosen k hk inner =
      let o : 1 ≤ occurs k (aligned l rows sweep) =
      through k hk inner (visits sweep rows) [] [] (visits_in_order l rows sweep sound are sweep refl)
      (record { known = λ j h. absurd (omega (arith, h)); near = λ j h. absurd (omega (arith, h)); beside = λ i j less h. absurd (omega (arith, h)) })
      (λ i h. absurd (omega (arith, h))) (visited sweep k hk) in
      (place_in (aligned l rows sweep) k, place_below k (aligned l rows sweep) o, place_reads k (aligned l rows sweep) o)
