-- The visits with a last place for each layer are those of the definition.
use Rattle.std.proofs.Common.{◌≡◌, ℕ, zero, suc, ◌+◌, ◌-◌, ◌/◌, ◌<◌, ◌==◌, ◌&&◌, ◌||◌, not, List, [], ◌∷◌, ◌++◌, length, map, take, drop, reverse, get_or, set, Bool, true, false, Option, Some, None, arith, refl, sym, ◌∙◌, ap, subst, inl, inr, eq-eqb, ne_eqb, lt-ltb, le-ltb, append-nil, true≢false, replicate}
use Rattle.std.proofs.lemmas.Bool.{cases_eq, cases_Bool, and_parts, ltb-true}
use Rattle.std.specs.List.{All, list_all, concat, filter}
use Rattle.std.proofs.lemmas.List.{length-map, get_or-map, get_or-set_same, get_or-set_other, length-set, take_more, get_or-reverse, length-reverse, get_or-drop, length-drop}
use Rattle.std.proofs.lemmas.List.Elements.{All-get_or, All-from_get_or, All-nil, All-cons, All-head, All-tail, All-append}
use Rattle.std.proofs.lemmas.List.Folds.{list_all-append}
use Rattle.drawing_types.specs.declared.sweep.Sweep.{Sweep}
use Rattle.drawing_types.specs.declared.sweep.Sweep.TheVariants.{LeftUp, LeftDown, RightUp, RightDown}
use Rattle.elk_layers.specs.declared.units.Link.{Link}
use Rattle.elk_layers.specs.Layered.{Plain, AreRows, link_at, layer_of, gap_of, row_at, place_of}
use Rattle.elk_layers.specs.Alignment.{goes_up, near_end, far_end, far_place, is_beyond, is_marked, is_free, medians_in, first_of, sorted_links, chosen_at, chosen_after, visited_row, visits}
use Rattle.bk_place.specs.declared.spokes.Spoke.{Spoke}
use Rattle.bk_place.specs.Spokes.{numbers_of, is_of}
use Rattle.bk_place.specs.Choosing.{is_past, can_choose, as_list, choice, last_at, near_layer, AreLast, CanVisit, VisitsTo}
use Rattle.bk_place.proofs.SpokeLemmas.{fan_sorted, fan_links}

abbrev none : Spoke
none = record { key = 0; number = 0 }

pub some_in : (fan : List Spoke) → (length fan == 0) ≡ false → 0 < length fan
some_in [] e = absurd (true≢false e)
some_in (s ∷ fan) e = omega arith

pub number_in : (n : ℕ) (fan : List Spoke) (i : ℕ) → All (λ k. k < n) (numbers_of fan) → i < length fan → (get_or fan i none).number < n
number_in n fan i all h =
    let at : get_or (numbers_of fan) i 0 ≡ (get_or fan i none).number = get_or-map (λ (s : Spoke). s.number) fan i none 0 h in
    subst (λ k. k < n) at (All-get_or (λ k. k < n) (numbers_of fan) i 0 (let long = length-map fan (λ (s : Spoke). s.number) in omega (arith, h, long)) all)

-- tests that agree on the elements of a list

all_same : (P : ℕ → Type 0) (p q : ℕ → Bool) (xs : List ℕ) → All P xs → ((x : ℕ) → P x → p x ≡ q x) → list_all p xs ≡ list_all q xs
all_same P p q [] all h = refl
all_same P p q (x ∷ xs) all h =
    let first : p x ≡ q x = h x (All-head P x xs all) in
    let rest = all_same P p q xs (All-tail P x xs all) h in
    rw (first, rest) refl

first_same : (P : ℕ → Type 0) (p q : ℕ → Bool) (ks : List ℕ) → All P ks → ((k : ℕ) → P k → p k ≡ q k) → first_of p ks ≡ first_of q ks
first_same P p q [] all h = refl
first_same P p q (k ∷ ks) all h =
    let first : p k ≡ q k = h k (All-head P k ks all) in
    let rest = first_same P p q ks (All-tail P k ks all) h in
    rw (first, rest) refl

first_passes : (P : ℕ → Type 0) (p : ℕ → Bool) (ks : List ℕ) (k : ℕ) → All P ks → first_of p ks ≡ k ∷ [] → (p k ≡ true) × P k
first_passes P p [] k all e = let bad : length {A = ℕ} [] ≡ length (k ∷ []) = ap length e in absurd (omega (arith, bad))
first_passes P p (x ∷ ks) k all e = elim (cases_Bool (p x)) [
  | inl t ↦
      let same : x ∷ [] ≡ k ∷ [] = rw t at e in
      let is : x ≡ k = ap (λ xs. get_or xs 0 0) same in
      (subst (λ y. p y ≡ true) is t, subst P is (All-head P x ks all))
  | inr n ↦ first_passes P p ks k (All-tail P x ks all) (rw n at e)
]

two_all : (P : ℕ → Type 0) (a b : ℕ) → P a → P b → All P (a ∷ b ∷ [])
two_all P a b p q = All-cons P a (b ∷ []) p (All-cons P b [] q (All-nil P))

medians_all : (P : ℕ → Type 0) (up : Bool) (ks : List ℕ) → All P ks → All P (medians_in up ks)
medians_all P up [] all = All-nil P
medians_all P true (k ∷ ks) all =
    two_all P (get_or (k ∷ ks) ((length (k ∷ ks) - 1) / 2) 0) (get_or (k ∷ ks) (length (k ∷ ks) / 2) 0)
    (All-get_or P (k ∷ ks) ((length (k ∷ ks) - 1) / 2) 0 (omega arith) all) (All-get_or P (k ∷ ks) (length (k ∷ ks) / 2) 0 (omega arith) all)
medians_all P false (k ∷ ks) all =
    two_all P (get_or (k ∷ ks) (length (k ∷ ks) / 2) 0) (get_or (k ∷ ks) ((length (k ∷ ks) - 1) / 2) 0)
    (All-get_or P (k ∷ ks) (length (k ∷ ks) / 2) 0 (omega arith) all) (All-get_or P (k ∷ ks) ((length (k ∷ ks) - 1) / 2) 0 (omega arith) all)

-- places beyond one another

beyond_itself : (s : Sweep) (x : ℕ) → is_beyond s x x ≡ false
beyond_itself LeftUp x = le-ltb x x (omega arith)
beyond_itself LeftDown x = le-ltb x x (omega arith)
beyond_itself RightUp x = le-ltb x x (omega arith)
beyond_itself RightDown x = le-ltb x x (omega arith)

beyond_trans : (s : Sweep) (x y z : ℕ) → is_beyond s y x ≡ true → is_beyond s z y ≡ true → is_beyond s z x ≡ true
beyond_trans LeftUp x y z a b = let p = ltb-true x y a in let q = ltb-true y z b in lt-ltb x z (omega (arith, p, q))
beyond_trans RightUp x y z a b = let p = ltb-true x y a in let q = ltb-true y z b in lt-ltb x z (omega (arith, p, q))
beyond_trans LeftDown x y z a b = let p = ltb-true y x a in let q = ltb-true z y b in lt-ltb z x (omega (arith, p, q))
beyond_trans RightDown x y z a b = let p = ltb-true y x a in let q = ltb-true z y b in lt-ltb z x (omega (arith, p, q))

past_trans : (s : Sweep) (last : Option ℕ) (y z : ℕ) → is_past s last y ≡ true → is_beyond s z y ≡ true → is_past s last z ≡ true
past_trans s None y z a b = refl
past_trans s (Some x) y z a b = beyond_trans s x y z a b

or_false : (a : Bool) → (a || false) ≡ a
or_false true = refl
or_false false = refl

and_true : (a : Bool) → (a && true) ≡ a
and_true true = refl
and_true false = refl

module _ (l : Plain) (rows : List (List ℕ)) (sweep : Sweep) (place : List ℕ) (marked : List Bool) (spokes : List Spoke) (can : CanVisit l rows sweep place marked spokes) where
  abbrev link : ℕ → Link
  link k = link_at l.links k

  abbrev far_at : ℕ → ℕ
  far_at k = far_place l rows sweep (link_at l.links k)

  abbrev Known : ℕ → Type 0
  Known k = k < length l.links

  gap_near : (s : Sweep) (j k : ℕ) → Known j → Known k → (gap_of l (link_at l.links j) == gap_of l (link_at l.links k)) ≡ (near_layer l s j == near_layer l s k)
  gap_near s j k hj hk = by_side s
    where
      nj : layer_of l (link_at l.links j).head ≡ layer_of l (link_at l.links j).tail + 1
      nj = (can.sound.links_are j hj).next_layer

      nk : layer_of l (link_at l.links k).head ≡ layer_of l (link_at l.links k).tail + 1
      nk = (can.sound.links_are k hk).next_layer

      left : (gap_of l (link_at l.links j) == gap_of l (link_at l.links k)) ≡ (layer_of l (link_at l.links j).head == layer_of l (link_at l.links k).head)
      left = elim (cases_eq (gap_of l (link_at l.links j)) (gap_of l (link_at l.links k))) [
        | inl e ↦ eq-eqb (gap_of l (link_at l.links j)) (gap_of l (link_at l.links k)) e ∙ sym (eq-eqb (layer_of l (link_at l.links j).head) (layer_of l (link_at l.links k).head) (omega (arith, nj, nk, e)))
        | inr n ↦ ne_eqb (gap_of l (link_at l.links j)) (gap_of l (link_at l.links k)) n ∙ sym (ne_eqb (layer_of l (link_at l.links j).head) (layer_of l (link_at l.links k).head) (λ e. n (omega (arith, nj, nk, e))))
      ]

      by_side : (s : Sweep) → (gap_of l (link_at l.links j) == gap_of l (link_at l.links k)) ≡ (near_layer l s j == near_layer l s k)
      by_side LeftUp = left
      by_side LeftDown = left
      by_side RightUp = refl
      by_side RightDown = refl

  -- links with one far end have near ends in one layer
  near_same : (s : Sweep) (j k : ℕ) → Known j → Known k → far_end s (link_at l.links j) ≡ far_end s (link_at l.links k) → near_layer l s j ≡ near_layer l s k
  near_same s j k hj hk = by_side s
    where
      nj : layer_of l (link_at l.links j).head ≡ layer_of l (link_at l.links j).tail + 1
      nj = (can.sound.links_are j hj).next_layer

      nk : layer_of l (link_at l.links k).head ≡ layer_of l (link_at l.links k).tail + 1
      nk = (can.sound.links_are k hk).next_layer

      left : (link_at l.links j).tail ≡ (link_at l.links k).tail → layer_of l (link_at l.links j).head ≡ layer_of l (link_at l.links k).head
      left e = let t : layer_of l (link_at l.links j).tail ≡ layer_of l (link_at l.links k).tail = ap (layer_of l) e in omega (arith, nj, nk, t)

      right : (link_at l.links j).head ≡ (link_at l.links k).head → layer_of l (link_at l.links j).tail ≡ layer_of l (link_at l.links k).tail
      right e = let t : layer_of l (link_at l.links j).head ≡ layer_of l (link_at l.links k).head = ap (layer_of l) e in omega (arith, nj, nk, t)

      by_side : (s : Sweep) → far_end s (link_at l.links j) ≡ far_end s (link_at l.links k) → near_layer l s j ≡ near_layer l s k
      by_side LeftUp = left
      by_side LeftDown = left
      by_side RightUp = right
      by_side RightDown = right

  apart_is : (j k : ℕ) → Known j → Known k
      → (not (far_end sweep (link_at l.links j) == far_end sweep (link_at l.links k)) && (not (gap_of l (link_at l.links j) == gap_of l (link_at l.links k)) || is_beyond sweep (far_at k) (far_at j)))
      ≡ (not (near_layer l sweep j == near_layer l sweep k) || is_beyond sweep (far_at k) (far_at j))
  apart_is j k hj hk = elim (cases_eq (far_end sweep (link_at l.links j)) (far_end sweep (link_at l.links k))) [
    | inl e ↦
        let near = near_same sweep j k hj hk e in
        let same : far_at j ≡ far_at k = ap (place_of l rows) e in
        let never : is_beyond sweep (far_at k) (far_at j) ≡ false = ap (is_beyond sweep (far_at k)) same ∙ beyond_itself sweep (far_at k) in
        rw (eq-eqb (far_end sweep (link_at l.links j)) (far_end sweep (link_at l.links k)) e, eq-eqb (near_layer l sweep j) (near_layer l sweep k) near, never) refl
    | inr n ↦
        rw (ne_eqb (far_end sweep (link_at l.links j)) (far_end sweep (link_at l.links k)) n, gap_near sweep j k hj hk) refl
  ]

  far_known : (s : Sweep) (k : ℕ) → Known k → far_end s (link_at l.links k) < length l.units
  far_known s k h = by_side s
    where
      by_side : (s : Sweep) → far_end s (link_at l.links k) < length l.units
      by_side LeftUp = (can.sound.links_are k h).tail
      by_side LeftDown = (can.sound.links_are k h).tail
      by_side RightUp = (can.sound.links_are k h).head
      by_side RightDown = (can.sound.links_are k h).head

  far_is : (k : ℕ) → Known k → get_or place (far_end sweep (link_at l.links k)) 0 ≡ far_at k
  far_is k h = can.places.place_is (far_end sweep (link_at l.links k)) (far_known sweep k h)

  free_is : (chosen : List ℕ) (last : List (Option ℕ)) (k : ℕ) → All Known chosen → AreLast l rows sweep chosen last → Known k
      → is_free l rows sweep chosen k ≡ can_choose sweep l.links place marked (last_at last (near_layer l sweep k)) k
  free_is chosen last k known so h =
      let mark : get_or marked k false ≡ is_marked l rows (link_at l.links k) = can.marks.mark_is k h in
      let past = so.past (near_layer l sweep k) (far_at k) in
      let all = all_same Known
      (λ j. not (far_end sweep (link_at l.links j) == far_end sweep (link_at l.links k)) && (not (gap_of l (link_at l.links j) == gap_of l (link_at l.links k)) || is_beyond sweep (far_at k) (far_at j)))
      (λ j. not (near_layer l sweep j == near_layer l sweep k) || is_beyond sweep (far_at k) (far_at j)) chosen known (λ j hj. apart_is j k hj h) in
      rw (mark, far_is k h, past) (ap (λ b. not (is_marked l rows (link_at l.links k)) && b) all)

  abbrev Choice : ℕ → ℕ → Type 0
  Choice u k = Known k × (near_end sweep (link_at l.links k) ≡ u)

  chosen_is : (chosen : List ℕ) (last : List (Option ℕ)) (u : ℕ) → All Known chosen → AreLast l rows sweep chosen last → All (Choice u) (sorted_links l rows sweep u)
      → chosen_at l rows sweep chosen u ≡ choice sweep l.links place marked (last_at last (layer_of l u)) (sorted_links l rows sweep u)
  chosen_is chosen last u known so fan =
      first_same (Choice u) (is_free l rows sweep chosen) (can_choose sweep l.links place marked (last_at last (layer_of l u))) (medians_in (goes_up sweep) (sorted_links l rows sweep u))
      (medians_all (Choice u) (goes_up sweep) (sorted_links l rows sweep u) fan)
      (λ k c. free_is chosen last k known so c.0 ∙ ap (λ g. can_choose sweep l.links place marked (last_at last g) k) (ap (layer_of l) c.1))

  abbrev beyond_all : ℕ → ℕ → ℕ → Bool
  beyond_all g here j = not (near_layer l sweep j == g) || is_beyond sweep here (far_at j)

  -- the last place after a link was chosen
  last_more : (chosen : List ℕ) (last : List (Option ℕ)) (k : ℕ) → AreLast l rows sweep chosen last → near_layer l sweep k < l.layers → is_past sweep (last_at last (near_layer l sweep k)) (far_at k) ≡ true
      → AreLast l rows sweep (chosen ++ k ∷ []) (set last (near_layer l sweep k) (Some (far_at k)))
  last_more chosen last k so h past =
      record {
        as_many = length-set last (near_layer l sweep k) (Some (far_at k)) ∙ so.as_many;
        past = λ g here. elim (cases_eq g (near_layer l sweep k)) [
          | inl e ↦ subst (λ g. is_past sweep (last_at (set last (near_layer l sweep k) (Some (far_at k))) g) here ≡ list_all (beyond_all g here) (chosen ++ k ∷ [])) (sym e) (at_layer here)
          | inr n ↦
              let kept : last_at (set last (near_layer l sweep k) (Some (far_at k))) g ≡ last_at last g = get_or-set_other last (near_layer l sweep k) g (Some (far_at k)) None n in
              let other : (near_layer l sweep k == g) ≡ false = ne_eqb (near_layer l sweep k) g (λ e. n (sym e)) in
              ap (λ o. is_past sweep o here) kept ∙ so.past g here
              ∙ sym (list_all-append (beyond_all g here) chosen (k ∷ []) ∙ ap (λ b. list_all (beyond_all g here) chosen && ((not b || is_beyond sweep here (far_at k)) && true)) other ∙ and_true (list_all (beyond_all g here) chosen))
        ];
      }
    where
      at_layer : (here : ℕ) → is_past sweep (last_at (set last (near_layer l sweep k) (Some (far_at k))) (near_layer l sweep k)) here ≡ list_all (beyond_all (near_layer l sweep k) here) (chosen ++ k ∷ [])
      at_layer here =
          let g : ℕ = near_layer l sweep k in
          let now : last_at (set last (near_layer l sweep k) (Some (far_at k))) (near_layer l sweep k) ≡ Some (far_at k) = get_or-set_same last (near_layer l sweep k) (Some (far_at k)) None (rw so.as_many h) in
          let old = so.past (near_layer l sweep k) here in
          let split = list_all-append (beyond_all (near_layer l sweep k) here) chosen (k ∷ []) in
          let own : beyond_all (near_layer l sweep k) here k ≡ is_beyond sweep here (far_at k) = ap (λ b. not b || is_beyond sweep here (far_at k)) (eq-eqb (near_layer l sweep k) (near_layer l sweep k) refl) in
          ap (λ o. is_past sweep o here) now
          ∙ sym (split ∙ ap (λ b. list_all (beyond_all (near_layer l sweep k) here) chosen && (b && true)) own ∙ ap (λ b. b && (is_beyond sweep here (far_at k) && true)) (sym old) ∙ both (is_beyond sweep here (far_at k)) refl)
        where
          both : (b : Bool) → is_beyond sweep here (far_at k) ≡ b → (is_past sweep (last_at last (near_layer l sweep k)) here && (b && true)) ≡ b
          both true e = rw (past_trans sweep (last_at last (near_layer l sweep k)) (far_at k) here past e) refl
          both false e = and_no (is_past sweep (last_at last (near_layer l sweep k)) here)
            where
              and_no : (a : Bool) → (a && false) ≡ false
              and_no true = refl
              and_no false = refl

  abbrev spokes_sorted : (u : ℕ) → numbers_of (filter (is_of u) spokes) ≡ sorted_links l rows sweep u
  spokes_sorted u = fan_sorted l rows sweep place spokes can.sound can.are_rows can.places can.spokes_are u

  pub record IsAfter (chosen chosen' : List ℕ) (last' : List (Option ℕ)) (u : ℕ) : Type 0 where
    pub chosen_are : chosen' ≡ chosen ++ chosen_at l rows sweep chosen u
    pub last_are : AreLast l rows sweep chosen' last'
    pub known : All Known chosen'

  -- a visit chooses what the definition does, and keeps the last places
  pub visit_more : (chosen chosen' : List ℕ) (last last' : List (Option ℕ)) (u : ℕ) → u < length l.units → All Known chosen → AreLast l rows sweep chosen last
      → VisitsTo l sweep place marked (numbers_of (filter (is_of u) spokes)) (layer_of l u) chosen chosen' last last' → IsAfter chosen chosen' last' u
  visit_more chosen chosen' last last' u hu known so v = by_found v.found refl
    where
      fan : All (Choice u) (sorted_links l rows sweep u)
      fan = fan_links l rows sweep place spokes can.sound can.are_rows can.places can.spokes_are u

      same : as_list v.found ≡ chosen_at l rows sweep chosen u
      same =
          v.choice_is ∙ ap (choice sweep l.links place marked (last_at last (layer_of l u))) (spokes_sorted u)
          ∙ sym (chosen_is chosen last u known so fan)

      by_found : (found : Option ℕ) → v.found ≡ found → IsAfter chosen chosen' last' u
      by_found None e =
          let is : chosen' ≡ chosen = v.chosen_is ∙ ap (λ o. chosen ++ as_list o) e ∙ append-nil chosen in
          record {
            chosen_are = v.chosen_is ∙ ap (λ xs. chosen ++ xs) same;
            last_are = subst (λ xs. AreLast l rows sweep xs last') (sym is) (subst (AreLast l rows sweep chosen) (sym (v.last_is e)) so);
            known = subst (All Known) (sym is) known;
          }
      by_found (Some k) e =
          let first : first_of (can_choose sweep l.links place marked (last_at last (layer_of l u))) (medians_in (goes_up sweep) (numbers_of (filter (is_of u) spokes))) ≡ k ∷ [] =
          sym v.choice_is ∙ ap as_list e in
          let taken = first_passes (Choice u) (can_choose sweep l.links place marked (last_at last (layer_of l u))) (medians_in (goes_up sweep) (sorted_links l rows sweep u)) k
          (medians_all (Choice u) (goes_up sweep) (sorted_links l rows sweep u) fan)
          (sym (ap (λ ks. first_of (can_choose sweep l.links place marked (last_at last (layer_of l u))) (medians_in (goes_up sweep) ks)) (spokes_sorted u)) ∙ first) in
          let hk : Known k = taken.1.0 in
          let layer : layer_of l u ≡ near_layer l sweep k = ap (layer_of l) (sym taken.1.1) in
          let passes = (and_parts (not (get_or marked k false)) (is_past sweep (last_at last (layer_of l u)) (get_or place (far_end sweep (link_at l.links k)) 0)) taken.0).1 in
          let past : is_past sweep (last_at last (near_layer l sweep k)) (far_at k) ≡ true =
          subst (λ g. is_past sweep (last_at last g) (far_at k) ≡ true) layer (subst (λ p. is_past sweep (last_at last (layer_of l u)) p ≡ true) (far_is k hk) passes) in
          let is : chosen' ≡ chosen ++ k ∷ [] = v.chosen_is ∙ ap (λ o. chosen ++ as_list o) e in
          let noted : last' ≡ set last (near_layer l sweep k) (Some (far_at k)) =
          v.noted k e ∙ ap (λ p. set last (layer_of l u) (Some p)) (far_is k hk) ∙ ap (λ g. set last g (Some (far_at k))) layer in
          let small : near_layer l sweep k < l.layers = subst (λ g. g < l.layers) layer (can.sound.layers_are u hu) in
          record {
            chosen_are = v.chosen_is ∙ ap (λ xs. chosen ++ xs) same;
            last_are = subst (λ xs. AreLast l rows sweep xs last') (sym is) (subst (AreLast l rows sweep (chosen ++ k ∷ [])) (sym noted) (last_more chosen last k so small past));
            known = subst (All Known) (sym is) (All-append Known chosen (k ∷ []) known (All-cons Known k [] hk (All-nil Known)));
          }

  after_append : (us vs chosen : List ℕ) → chosen_after l rows sweep chosen (us ++ vs) ≡ chosen_after l rows sweep (chosen_after l rows sweep chosen us) vs
  after_append [] vs chosen = refl
  after_append (u ∷ us) vs chosen = after_append us vs (chosen ++ chosen_at l rows sweep chosen u)

  pub visits_more : (vs chosen chosen' : List ℕ) (last last' : List (Option ℕ)) (i u : ℕ) → i < length vs → u ≡ get_or vs i 0 → u < length l.units → All Known chosen → AreLast l rows sweep chosen last
      → chosen ≡ chosen_after l rows sweep [] (take i vs)
      → VisitsTo l sweep place marked (numbers_of (filter (is_of u) spokes)) (layer_of l u) chosen chosen' last last'
      → (chosen' ≡ chosen_after l rows sweep [] (take (i + 1) vs)) × AreLast l rows sweep chosen' last' × All Known chosen'
  visits_more vs chosen chosen' last last' i u h is hu known so now v =
      let after = visit_more chosen chosen' last last' u hu known so v in
      let next : chosen_after l rows sweep [] (take (i + 1) vs) ≡ chosen ++ chosen_at l rows sweep chosen u =
      ap (chosen_after l rows sweep []) (take_more vs i 0 h) ∙ after_append (take i vs) (get_or vs i 0 ∷ []) []
      ∙ ap (λ c. c ++ chosen_at l rows sweep c (get_or vs i 0)) (sym now) ∙ ap (λ x. chosen ++ chosen_at l rows sweep chosen x) (sym is) in
      (after.chosen_are ∙ sym next, after.last_are, after.known)

-- nothing was chosen yet
pub last_start : (l : Plain) (rows : List (List ℕ)) (sweep : Sweep) (last : List (Option ℕ)) → length last ≡ l.layers → ((g : ℕ) → last_at last g ≡ None) → AreLast l rows sweep [] last
last_start l rows sweep last long none_yet = record { as_many = long; past = λ g here. ap (λ o. is_past sweep o here) (none_yet g) }

pub nothing_noted : (n g : ℕ) → last_at (replicate n None) g ≡ None
nothing_noted zero g = refl
nothing_noted (suc n) zero = refl
nothing_noted (suc n) (suc g) = nothing_noted n g

-- the visits go to units of the drawing

all_rows : (P : ℕ → Type 0) (s : Sweep) (rs : List (List ℕ)) → ((i : ℕ) → i < length rs → All P (row_at rs i)) → All P (concat (map (visited_row s) rs))
all_rows P s [] h = All-nil P
all_rows P s (row ∷ rs) h =
    All-append P (visited_row s row) (concat (map (visited_row s) rs)) (by_side s (h 0 (omega arith))) (all_rows P s rs (λ i k. h (suc i) (omega (arith, k))))
  where
    flipped : All P row → All P (reverse row)
    flipped all =
        All-from_get_or P (reverse row) 0
        (λ i k. let long = length-reverse row in let hi : i < length row = omega (arith, k, long) in
        subst P (sym (get_or-reverse row i 0 hi)) (All-get_or P row (length row - 1 - i) 0 (omega (arith, hi)) all))

    by_side : (s : Sweep) → All P row → All P (visited_row s row)
    by_side LeftUp all = all
    by_side RightUp all = all
    by_side LeftDown all = flipped all
    by_side RightDown all = flipped all

pub visits_known : (l : Plain) (rows : List (List ℕ)) (sweep : Sweep) → AreRows l rows → All (λ u. u < length l.units) (visits sweep rows)
visits_known l rows sweep are = by_side sweep
  where
    row_known : (r : ℕ) → r < length rows → All (λ u. u < length l.units) (row_at rows r)
    row_known r h = All-from_get_or (λ u. u < length l.units) (row_at rows r) 0 (are.in_range r h)

    right : (s : Sweep) → All (λ u. u < length l.units) (concat (map (visited_row s) (drop 1 rows)))
    right s =
        all_rows (λ u. u < length l.units) s (drop 1 rows)
        (λ i k. let long = length-drop 1 rows in subst (All (λ u. u < length l.units)) (sym (get_or-drop 1 rows i [])) (row_known (1 + i) (omega (arith, k, long))))

    left : (s : Sweep) → All (λ u. u < length l.units) (concat (map (visited_row s) (drop 1 (reverse rows))))
    left s =
        let long : length (drop 1 (reverse rows)) ≡ length (reverse rows) - 1 = length-drop 1 (reverse rows) in
        let same : length (reverse rows) ≡ length rows = length-reverse rows in
        all_rows (λ u. u < length l.units) s (drop 1 (reverse rows))
        (λ i k. subst (All (λ u. u < length l.units)) (sym (get_or-drop 1 (reverse rows) i [] ∙ get_or-reverse rows (1 + i) [] (omega (arith, k, long, same)))) (row_known (length rows - 1 - (1 + i)) (omega (arith, k, long, same))))

    by_side : (s : Sweep) → All (λ u. u < length l.units) (visits s rows)
    by_side LeftUp = right LeftUp
    by_side LeftDown = right LeftDown
    by_side RightUp = left RightUp
    by_side RightDown = left RightDown
