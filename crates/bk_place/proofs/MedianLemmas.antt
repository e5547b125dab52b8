-- The medians of the units, and what a visit takes of them.
use Rattle.std.proofs.Common.{◌≡◌, ℕ, ◌+◌, ◌-◌, ◌/◌, ◌<◌, ◌==◌, ◌&&◌, not, cond, List, [], ◌∷◌, ◌++◌, length, map, get_or, Bool, true, false, Option, Some, None, arith, refl, sym, ◌∙◌, ap, subst, eqb-true, true≢false}
use Rattle.std.specs.List.{filter, range_with_len}
use Rattle.std.specs.List.Sorted.{IsPermutation}
use Rattle.std.proofs.lemmas.List.{get_or-map, length-map}
use Rattle.std.proofs.lemmas.List.FromFn.{get_or-map-range_with_len, length-map-range_with_len}
use Rattle.drawing_types.specs.declared.sweep.Sweep.{Sweep}
use Rattle.drawing_types.specs.declared.sweep.Sweep.TheVariants.{LeftUp, LeftDown, RightUp, RightDown}
use Rattle.elk_layers.specs.declared.units.Link.{Link}
use Rattle.elk_layers.specs.Layered.{Plain, link_at, layer_of}
use Rattle.elk_layers.specs.Alignment.{goes_up, far_end, first_of}
use Rattle.bk_place.specs.declared.medians.Median.{Median}
use Rattle.bk_place.specs.declared.medians.Medians.{Medians}
use Rattle.bk_place.specs.declared.spokes.Spoke.{Spoke}
use Rattle.bk_place.specs.Spokes.{numbers_of, spoke_of, is_of}
use Rattle.bk_place.specs.Visits.{flipped}
use Rattle.bk_place.specs.Choosing.{is_past, can_choose, as_list, choice, last_at, VisitsTo}
use Rattle.bk_place.specs.Medians.{median_for, medians_with, medians_for, medians_at, is_open, first_open, taken, number_of, last_after, Takes, no_medians, entry, CanTake, ServesSide}

abbrev none : Spoke
none = record { key = 0; number = 0 }

pub medians_empty : (sweep : Sweep) (links : List Link) (place : List ℕ) (marked : List Bool) (layer : ℕ) (fan : List Spoke) → (length fan == 0) ≡ true
    → medians_with layer None None ≡ medians_for sweep links place marked layer (numbers_of fan)
medians_empty sweep links place marked layer [] e = refl
medians_empty sweep links place marked layer (s ∷ fan) e = let z : length (s ∷ fan) ≡ 0 = eqb-true (length (s ∷ fan)) 0 e in absurd (omega (arith, z))

pub medians_some : (sweep : Sweep) (links : List Link) (place : List ℕ) (marked : List Bool) (layer : ℕ) (fan : List Spoke) → (length fan == 0) ≡ false
    → medians_with layer (median_for sweep links place marked (get_or fan ((length fan - 1) / 2) none).number) (median_for sweep links place marked (get_or fan (length fan / 2) none).number) ≡ medians_for sweep links place marked layer (numbers_of fan)
medians_some sweep links place marked layer [] e = absurd (true≢false e)
medians_some sweep links place marked layer (s ∷ fan) e =
    let long : length (numbers_of (s ∷ fan)) ≡ length (s ∷ fan) = length-map (s ∷ fan) (λ (s : Spoke). s.number) in
    let low : get_or (numbers_of (s ∷ fan)) ((length (s ∷ fan) - 1) / 2) 0 ≡ (get_or (s ∷ fan) ((length (s ∷ fan) - 1) / 2) none).number = get_or-map (λ (s : Spoke). s.number) (s ∷ fan) ((length (s ∷ fan) - 1) / 2) none 0 (omega arith) in
    let high : get_or (numbers_of (s ∷ fan)) (length (s ∷ fan) / 2) 0 ≡ (get_or (s ∷ fan) (length (s ∷ fan) / 2) none).number = get_or-map (λ (s : Spoke). s.number) (s ∷ fan) (length (s ∷ fan) / 2) none 0 (omega arith) in
    let at : (n : ℕ) → n ≡ length (s ∷ fan) → (get_or (numbers_of (s ∷ fan)) ((n - 1) / 2) 0 ≡ (get_or (s ∷ fan) ((length (s ∷ fan) - 1) / 2) none).number) × (get_or (numbers_of (s ∷ fan)) (n / 2) 0 ≡ (get_or (s ∷ fan) (length (s ∷ fan) / 2) none).number) =
    λ n e. rw e (low, high) in
    let both = at (length (numbers_of (s ∷ fan))) long in
    sym (ap (λ k. medians_with layer (median_for sweep links place marked k) (median_for sweep links place marked (get_or (numbers_of (s ∷ fan)) (length (numbers_of (s ∷ fan)) / 2) 0))) both.0
    ∙ ap (λ k. medians_with layer (median_for sweep links place marked (get_or (s ∷ fan) ((length (s ∷ fan) - 1) / 2) none).number) (median_for sweep links place marked k)) both.1)

module _ (sweep : Sweep) (links : List Link) (place : List ℕ) (marked : List Bool) (last : Option ℕ) where
  abbrev median : ℕ → Option Median
  median k = median_for sweep links place marked k

  abbrev can : ℕ → Bool
  can k = can_choose sweep links place marked last k

  open_is : (k : ℕ) → is_open sweep last (median k) ≡ can k
  open_is k = step (get_or marked k false)
    where
      step : (b : Bool) → is_open sweep last (cond b None (Some (record { number = k; place = get_or place (far_end sweep (link_at links k)) 0 }))) ≡ (not b && is_past sweep last (get_or place (far_end sweep (link_at links k)) 0))
      step true = refl
      step false = refl

  number_is : (k : ℕ) → is_open sweep last (median k) ≡ true → as_list (number_of (median k)) ≡ k ∷ []
  number_is k h = step (get_or marked k false) h
    where
      step : (b : Bool) → is_open sweep last (cond b None (Some (record { number = k; place = get_or place (far_end sweep (link_at links k)) 0 }))) ≡ true
          → as_list (number_of (cond b None (Some (record { number = k; place = get_or place (far_end sweep (link_at links k)) 0 })))) ≡ k ∷ []
      step true h = absurd (true≢false (sym h))
      step false h = refl

  first_is : (a b : ℕ) → as_list (number_of (first_open sweep last (median a) (median b))) ≡ first_of (can_choose sweep links place marked last) (a ∷ b ∷ [])
  first_is a b =
      step (is_open sweep last (median a)) (is_open sweep last (median b)) (number_is a) (number_is b)
      ∙ ap (λ p. cond p (a ∷ []) (cond (is_open sweep last (median b)) (b ∷ []) [])) (open_is a)
      ∙ ap (λ q. cond (can a) (a ∷ []) (cond q (b ∷ []) [])) (open_is b)
    where
      step : (p q : Bool) → (p ≡ true → as_list (number_of (median a)) ≡ a ∷ []) → (q ≡ true → as_list (number_of (median b)) ≡ b ∷ [])
          → as_list (number_of (cond p (median a) (cond q (median b) None))) ≡ cond p (a ∷ []) (cond q (b ∷ []) [])
      step true q f g = f refl
      step false true f g = g refl
      step false false f g = refl

  -- a visit chooses what the definition does
  pub choice_is : (layer : ℕ) (fan : List ℕ) → as_list (number_of (taken sweep last (medians_for sweep links place marked layer fan))) ≡ choice sweep links place marked last fan
  choice_is layer [] = step (goes_up sweep)
    where
      step : (up : Bool) → as_list (number_of (cond up (first_open sweep last None None) (first_open sweep last None None))) ≡ []
      step true = refl
      step false = refl
  choice_is layer (k ∷ ks) = step (goes_up sweep)
    where
      low : ℕ
      low = get_or (k ∷ ks) ((length (k ∷ ks) - 1) / 2) 0

      high : ℕ
      high = get_or (k ∷ ks) (length (k ∷ ks) / 2) 0

      step : (up : Bool) → as_list (number_of (cond up (first_open sweep last (median (get_or (k ∷ ks) ((length (k ∷ ks) - 1) / 2) 0)) (median (get_or (k ∷ ks) (length (k ∷ ks) / 2) 0))) (first_open sweep last (median (get_or (k ∷ ks) (length (k ∷ ks) / 2) 0)) (median (get_or (k ∷ ks) ((length (k ∷ ks) - 1) / 2) 0)))))
          ≡ first_of (can_choose sweep links place marked last) (cond up (get_or (k ∷ ks) ((length (k ∷ ks) - 1) / 2) 0 ∷ get_or (k ∷ ks) (length (k ∷ ks) / 2) 0 ∷ []) (get_or (k ∷ ks) (length (k ∷ ks) / 2) 0 ∷ get_or (k ∷ ks) ((length (k ∷ ks) - 1) / 2) 0 ∷ []))
      step true = first_is (get_or (k ∷ ks) ((length (k ∷ ks) - 1) / 2) 0) (get_or (k ∷ ks) (length (k ∷ ks) / 2) 0)
      step false = first_is (get_or (k ∷ ks) (length (k ∷ ks) / 2) 0) (get_or (k ∷ ks) ((length (k ∷ ks) - 1) / 2) 0)

  -- a median has the place of its far end
  abbrev HasFarPlace : Option Median → Type 0
  HasFarPlace None = Unit {0}
  HasFarPlace (Some m) = m.place ≡ get_or place (far_end sweep (link_at links m.number)) 0

  median_far : (k : ℕ) → HasFarPlace (median k)
  median_far k = step (get_or marked k false)
    where
      step : (b : Bool) → HasFarPlace (cond b None (Some (record { number = k; place = get_or place (far_end sweep (link_at links k)) 0 })))
      step true = tt
      step false = refl

  open_far : (a b : Option Median) → HasFarPlace a → HasFarPlace b → HasFarPlace (first_open sweep last a b)
  open_far a b f g = step (is_open sweep last a) (is_open sweep last b)
    where
      step : (p q : Bool) → HasFarPlace (cond p a (cond q b None))
      step true q = f
      step false true = g
      step false false = tt

  taken_far : (layer : ℕ) (fan : List ℕ) → HasFarPlace (taken sweep last (medians_for sweep links place marked layer fan))
  taken_far layer [] = step (goes_up sweep)
    where
      step : (up : Bool) → HasFarPlace (cond up (first_open sweep last None None) (first_open sweep last None None))
      step true = tt
      step false = tt
  taken_far layer (k ∷ ks) =
      both (median (get_or (k ∷ ks) ((length (k ∷ ks) - 1) / 2) 0)) (median (get_or (k ∷ ks) (length (k ∷ ks) / 2) 0))
      (median_far (get_or (k ∷ ks) ((length (k ∷ ks) - 1) / 2) 0)) (median_far (get_or (k ∷ ks) (length (k ∷ ks) / 2) 0)) (goes_up sweep)
    where
      both : (a b : Option Median) → HasFarPlace a → HasFarPlace b → (up : Bool) → HasFarPlace (cond up (first_open sweep last a b) (first_open sweep last b a))
      both a b f g true = open_far a b f g
      both a b f g false = open_far b a g f

  pub place_is : (layer : ℕ) (fan : List ℕ) (m : Median) → taken sweep last (medians_for sweep links place marked layer fan) ≡ Some m → m.place ≡ get_or place (far_end sweep (link_at links m.number)) 0
  place_is layer fan m e = subst HasFarPlace e (taken_far layer fan)

layer_is : (sweep : Sweep) (links : List Link) (place : List ℕ) (marked : List Bool) (layer : ℕ) (fan : List ℕ) → (medians_for sweep links place marked layer fan).layer ≡ layer
layer_is sweep links place marked layer [] = refl
layer_is sweep links place marked layer (k ∷ ks) = refl

module _ (l : Plain) (rows : List (List ℕ)) (sweep : Sweep) (table : List Medians) (can : CanTake l rows sweep table) where
  pub entry_is : (u : ℕ) → u < length l.units → entry table u ≡ medians_at l sweep can.place can.marked can.spokes u
  entry_is u h =
      ap (λ xs. entry xs u) can.table_is
      ∙ get_or-map-range_with_len (medians_at l sweep can.place can.marked can.spokes) 0 (length l.units) u u no_medians h (omega arith)

  pub entry_layer : (u : ℕ) → u < length l.units → (entry table u).layer ≡ layer_of l u
  entry_layer u h = ap (λ (m : Medians). m.layer) (entry_is u h) ∙ layer_is sweep l.links can.place can.marked (layer_of l u) (numbers_of (filter (is_of u) can.spokes))

  pub table_long : length table ≡ length l.units
  table_long = ap length can.table_is ∙ length-map-range_with_len (medians_at l sweep can.place can.marked can.spokes) 0 (length l.units)

  -- the visit of an entry is that of its unit
  pub visit_is : (u : ℕ) (chosen chosen' : List ℕ) (last last' : List (Option ℕ)) → u < length l.units → Takes sweep (entry table u) chosen chosen' last last'
      → VisitsTo l sweep can.place can.marked (numbers_of (filter (is_of u) can.spokes)) (layer_of l u) chosen chosen' last last'
  visit_is u chosen chosen' last last' h t =
      record {
        found = number_of found;
        choice_is = choice_is sweep l.links can.place can.marked (last_at last (layer_of l u)) (layer_of l u) (numbers_of (filter (is_of u) can.spokes));
        chosen_is = t.chosen_is ∙ ap (λ o. chosen ++ as_list (number_of o)) same;
        last_is = λ e. noted ∙ unchanged found e;
        noted = λ k e. noted ∙ changed found refl k e;
      }
    where
      medians : Medians
      medians = medians_at l sweep can.place can.marked can.spokes u

      found : Option Median
      found = taken sweep (last_at last (layer_of l u)) (medians_at l sweep can.place can.marked can.spokes u)

      same : taken sweep (last_at last (entry table u).layer) (entry table u) ≡ taken sweep (last_at last (layer_of l u)) (medians_at l sweep can.place can.marked can.spokes u)
      same =
          ap (λ g. taken sweep (last_at last g) (entry table u)) (entry_layer u h)
          ∙ ap (taken sweep (last_at last (layer_of l u))) (entry_is u h)

      noted : last' ≡ last_after last (layer_of l u) (taken sweep (last_at last (layer_of l u)) (medians_at l sweep can.place can.marked can.spokes u))
      noted =
          t.last_is ∙ ap (λ g. last_after last g (taken sweep (last_at last (entry table u).layer) (entry table u))) (entry_layer u h)
          ∙ ap (last_after last (layer_of l u)) same

      unchanged : (o : Option Median) → number_of o ≡ None → last_after last (layer_of l u) o ≡ last
      unchanged None e = refl
      unchanged (Some m) e = absurd cc

      changed : (o : Option Median) → taken sweep (last_at last (layer_of l u)) (medians_at l sweep can.place can.marked can.spokes u) ≡ o → (k : ℕ) → number_of o ≡ Some k
          → last_after last (layer_of l u) o ≡ Rattle.std.proofs.Common.set last (layer_of l u) (Some (get_or can.place (far_end sweep (link_at l.links k)) 0))
      changed None is k e = absurd cc
      changed (Some m) is k e =
          let number : m.number ≡ k = cc in
          let place = place_is sweep l.links can.place can.marked (last_at last (layer_of l u)) (layer_of l u) (numbers_of (filter (is_of u) can.spokes)) m is in
          ap (λ p. Rattle.std.proofs.Common.set last (layer_of l u) (Some p)) (place ∙ ap (λ n. get_or can.place (far_end sweep (link_at l.links n)) 0) number)

-- what the two sweeps to one side need is the same
pub side_is_served : (l : Plain) (rows : List (List ℕ)) (sweep : Sweep) (table : List Medians) → CanTake l rows sweep table → ServesSide l rows sweep table
side_is_served l rows sweep table t = (
  t,
  record {
    place = t.place;
    marked = t.marked;
    spokes = t.spokes;
    can = record {
      sound = t.can.sound;
      are_rows = t.can.are_rows;
      places = t.can.places;
      marks = t.can.marks;
      spokes_are = record { same = same sweep t.can.spokes_are.same; sorted = t.can.spokes_are.sorted };
    };
    table_is = same_table sweep t.table_is;
  },
)
  where
    same : (s : Sweep) → IsPermutation (map (spoke_of l s t.place) (range_with_len 0 (length l.links))) t.spokes → IsPermutation (map (spoke_of l (flipped s) t.place) (range_with_len 0 (length l.links))) t.spokes
    same LeftUp h = h
    same LeftDown h = h
    same RightUp h = h
    same RightDown h = h

    same_table : (s : Sweep) → table ≡ map (medians_at l s t.place t.marked t.spokes) (range_with_len 0 (length l.units)) → table ≡ map (medians_at l (flipped s) t.place t.marked t.spokes) (range_with_len 0 (length l.units))
    same_table LeftUp h = h
    same_table LeftDown h = h
    same_table RightUp h = h
    same_table RightDown h = h
