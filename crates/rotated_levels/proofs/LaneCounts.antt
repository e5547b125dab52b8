-- How many lanes a child has on a side: one for each self-loop and each end of an edge at it, at most.
use Rattle.std.proofs.Common.{◌≡◌, ◌⊎◌, inl, inr, ⊎_elim, ℕ, ◌+◌, ◌≤◌, ◌==◌, ◌&&◌, not, Bool, true, false, List, [], ◌∷◌, map, length, refl, sym, ap, subst, ◌∙◌, arith, eqb}
use Rattle.std.proofs.lemmas.Bool.{and_parts, cases_Bool, or_cases, eqb-true, false≢true}
use Rattle.std.proofs.lemmas.List.{length-append, length-map}
use Rattle.std.specs.Prelude.{Option, None, Some, is_none}
use Rattle.std.specs.List.{filter, list_any, range_with_len}
use Rattle.drawing_types.specs.declared.shape.Side.{Side}
use Rattle.drawing_types.specs.declared.shape.Side.TheVariants.{North, East, South, West}
use Rattle.drawing_types.specs.declared.shape.Dock.{Dock}
use Rattle.drawing_types.specs.Shapes.{is_side}
use Rattle.port_order.specs.declared.spots.Spot.{Spot}
use Rattle.level_model.specs.Stage.{dock_lane, loop_lane}
use Rattle.level_model.specs.Level.{End, Orders, PlainLevel, PlainPlan, all_ends, child_at, dock_of_spot, edge_at, ends_at_port, enters, implicit_ends, implicit_spot, is_loop, is_port, linked, port_spot, spoke, spot_at_port, spots}
use Rattle.level_model.specs.Lanes.{asks_lane, dock_eq, docks_with_lane, has_lane, lane_side, lanes, loop_sides, loops_of, once}
use Rattle.level_model.proofs.Lists.{Has, any_has, append_has, filter_has, has_filter, map_has}
use Rattle.level_model.proofs.FirstPlaces.{Distinct, distinct_filter}
use Rattle.level_model.proofs.SameLines.{dock_eq-same, dock_eq-self}
use Rattle.level_nets.proofs.ListLemmas.{filter_short}

-- ---- lists that hold nothing twice

module _ {X : Type 0} (eq : X → X → Bool) (same : (x y : X) → eq x y ≡ true → x ≡ y) (self : (x : X) → eq x x ≡ true) where
  untouched : (x : X) (ys : List X) → ((z : X) → Has ys z → eq x z ≡ false) → length (filter (λ z. not (eq x z)) ys) ≡ length ys
  untouched x [] k = refl
  untouched x (z ∷ zs) k = let here = k z (inl refl) in let rest = untouched x zs (λ w has. k w (inr has)) in rw here (omega (arith, rest))

  -- at most one element is left out with all that are equal to one
  others : (x : X) (xs : List X) → Distinct xs → length xs ≤ 1 + length (filter (λ y. not (eq x y)) xs)
  others x [] h = omega arith
  others x (y ∷ ys) h =
      ⊎_elim
      (λ (t : eq x y ≡ true).
      let none = untouched x ys (λ z has. ⊎_elim (λ (again : eq x z ≡ true). absurd (h.0 (subst (Has ys) (sym (same x z again) ∙ same x y t) has))) (λ off. off) (cases_Bool (eq x z))) in
      rw t (omega (arith, none)))
      (λ (f : eq x y ≡ false). let rest = others x ys h.1 in rw f (omega (arith, rest)))
      (cases_Bool (eq x y))

  -- Elements, none of them twice, each of which a function gives for one of a list, are no more than the list's.
  pub no_more_of : {Y : Type 0} (f : Y → X) (xs : List X) (ys : List Y) → Distinct xs → ((x : X) → Has xs x → (y : Y) × Has ys y × (f y ≡ x)) → length xs ≤ length ys
  no_more_of f [] ys h known = omega arith
  no_more_of f (x ∷ xs) [] h known = absurd ((known x (inl refl)).1)
  no_more_of f (x ∷ xs) (y ∷ ys) h known =
      let most = others (f y) (x ∷ xs) h in
      let rest = no_more_of f (filter (λ z. not (eq (f y) z)) (x ∷ xs)) ys (distinct_filter (λ z. not (eq (f y) z)) (x ∷ xs) h)
      (λ z has.
      let found = filter_has (λ w. not (eq (f y) w)) (x ∷ xs) z has in
      let at = known z found.0 in
      ⊎_elim
      (λ (first : y ≡ at.0). absurd (let t : eq (f y) z ≡ true = subst (λ w. eq (f y) w ≡ true) (ap f first ∙ at.2) (self (f y)) in let bad : false ≡ true = ap not (sym t) ∙ found.1 in cc))
      (λ later. (at.0, later, at.2))
      at.1)
      in
      omega (arith, most, rest)

pub filter_less : {X : Type 0} (f g : X → Bool) (xs : List X) → ((x : X) → f x ≡ true → g x ≡ true) → length (filter f xs) ≤ length (filter g xs)
filter_less f g [] h = omega arith
filter_less f g (x ∷ xs) h =
    let rest = filter_less f g xs h in
    ⊎_elim
    (λ (t : f x ≡ true). let u = h x t in rw (t, u) (omega (arith, rest)))
    (λ (n : f x ≡ false). ⊎_elim (λ (t : g x ≡ true). rw (n, t) (omega (arith, rest))) (λ (m : g x ≡ false). rw (n, m) rest) (cases_Bool (g x)))
    (cases_Bool (f x))

-- ---- docks with a lane

once_distinct : (ds : List Dock) → Distinct (once ds)
once_distinct [] = tt
once_distinct (d ∷ ds) = (
  λ has. let found = filter_has (λ k. not (dock_eq d k)) (once ds) d has in absurd (let bad : false ≡ true = ap not (sym (dock_eq-self d)) ∙ found.1 in cc),
  distinct_filter (λ k. not (dock_eq d k)) (once ds) (once_distinct ds),
)

-- a spot that asks for a lane has a link at it
asks_some : (side : Side) (leaves enters : Bool) → asks_lane side leaves enters ≡ true → (leaves ≡ true) ⊎ (enters ≡ true)
asks_some North leaves enters h = or_cases leaves enters h
asks_some East leaves enters h = inr h
asks_some South leaves enters h = or_cases leaves enters h
asks_some West leaves enters h = inl h

module _ (l : PlainLevel) (p : PlainPlan) (o : Orders) (c : ℕ) where
  -- the dock of an end of this child
  abbrev end_dock : End → Dock
  end_dock n = dock_of_spot l o c (spot_at_port l p c n (spoke l n).port)

  abbrev IsFrom : Spot → Type 0
  IsFrom s = (n : End) × Has (filter (λ m. (spoke l m).child == c) (all_ends l)) n × (spot_at_port l p c n (spoke l n).port ≡ s)

  some_end : (s : Spot) (ns : List End) → s.leaves ≡ list_any (λ n. not (enters p n)) (linked l ns) → s.enters ≡ list_any (λ n. enters p n) (linked l ns)
      → (s.leaves ≡ true) ⊎ (s.enters ≡ true) → (n : End) × Has ns n
  some_end s ns leaves comes h =
      ⊎_elim
      (λ (t : s.leaves ≡ true). let found = any_has (λ n. not (enters p n)) (linked l ns) (sym leaves ∙ t) in (found.0, (filter_has (λ n. not (is_loop l n.edge)) ns found.0 found.1).0))
      (λ (t : s.enters ≡ true). let found = any_has (λ n. enters p n) (linked l ns) (sym comes ∙ t) in (found.0, (filter_has (λ n. not (is_loop l n.edge)) ns found.0 found.1).0))
      h

  port_is : (port : Option ℕ) (k : ℕ) → is_port port k ≡ true → port ≡ Some k
  port_is None k h = absurd (false≢true h)
  port_is (Some j) k h = ap (λ (i : ℕ). Some i) (eqb-true j k h)

  none_is : (port : Option ℕ) → is_none port ≡ true → port ≡ None
  none_is None h = refl
  none_is (Some j) h = absurd (false≢true h)

  port_from : (k : ℕ) → ((port_spot l p c k).leaves ≡ true) ⊎ ((port_spot l p c k).enters ≡ true) → IsFrom (port_spot l p c k)
  port_from k h =
      let some = some_end (port_spot l p c k) (ends_at_port l c k) refl refl h in
      let at = filter_has (λ n. eqb (spoke l n).child c && is_port (spoke l n).port k) (all_ends l) some.0 some.1 in
      let both = and_parts (eqb (spoke l some.0).child c) (is_port (spoke l some.0).port k) at.1 in
      (some.0, has_filter (λ m. (spoke l m).child == c) (all_ends l) some.0 at.0 both.0, ap (spot_at_port l p c some.0) (port_is (spoke l some.0).port k both.1))

  implicit_from : (n : End) → Has (implicit_ends l c) n → IsFrom (implicit_spot l p c n)
  implicit_from n has =
      let at = filter_has (λ m. eqb (spoke l m).child c && is_none (spoke l m).port) (all_ends l) n has in
      let both = and_parts (eqb (spoke l n).child c) (is_none (spoke l n).port) at.1 in
      (n, has_filter (λ m. (spoke l m).child == c) (all_ends l) n at.0 both.0, ap (spot_at_port l p c n) (none_is (spoke l n).port both.1))

  spot_from : (s : Spot) → Has (spots l p c) s → (s.leaves ≡ true) ⊎ (s.enters ≡ true) → IsFrom s
  spot_from s has h =
      ⊎_elim
      (λ (ports : Has (map (port_spot l p c) (range_with_len 0 (length (child_at l c).ports))) s).
      let at = map_has (port_spot l p c) (range_with_len 0 (length (child_at l c).ports)) s ports in
      subst IsFrom at.2 (port_from at.0 (subst (λ (t : Spot). (t.leaves ≡ true) ⊎ (t.enters ≡ true)) (sym at.2) h)))
      (λ (implicit : Has (map (implicit_spot l p c) (implicit_ends l c)) s).
      let at = map_has (implicit_spot l p c) (implicit_ends l c) s implicit in
      subst IsFrom at.2 (implicit_from at.0 at.1))
      (append_has (map (port_spot l p c) (range_with_len 0 (length (child_at l c).ports))) (map (implicit_spot l p c) (implicit_ends l c)) s has)

  -- a dock for which a spot asks for a lane is that of an end
  dock_by : (d : Dock) (s : Spot) → Has (spots l p c) s → (dock_eq (dock_of_spot l o c s) d && asks_lane d.side s.leaves s.enters) ≡ true
      → (n : End) × Has (filter (λ m. (spoke l m).child == c) (all_ends l)) n × (end_dock n ≡ d)
  dock_by d s has h =
      let both = and_parts (dock_eq (dock_of_spot l o c s) d) (asks_lane d.side s.leaves s.enters) h in
      let from = spot_from s has (asks_some d.side s.leaves s.enters both.1) in
      (from.0, from.1, ap (dock_of_spot l o c) from.2 ∙ dock_eq-same (dock_of_spot l o c s) d both.0)

  dock_from : (d : Dock) → Has (docks_with_lane l p o c) d → (n : End) × Has (filter (λ m. (spoke l m).child == c) (all_ends l)) n × (end_dock n ≡ d)
  dock_from d has =
      let wanted = (filter_has (has_lane l p o c) (once (map (dock_of_spot l o c) (spots l p c))) d has).1 in
      let found = any_has (λ s. dock_eq (dock_of_spot l o c s) d && asks_lane d.side s.leaves s.enters) (spots l p c) wanted in
      dock_by d found.0 found.1 found.2

  -- no more docks of a child have a lane than ends are at it
  docks_few : length (docks_with_lane l p o c) ≤ length (filter (λ m. (spoke l m).child == c) (all_ends l))
  docks_few =
      no_more_of dock_eq dock_eq-same dock_eq-self end_dock (docks_with_lane l p o c) (filter (λ m. (spoke l m).child == c) (all_ends l))
      (distinct_filter (has_lane l p o c) (once (map (dock_of_spot l o c) (spots l p c))) (once_distinct (map (dock_of_spot l o c) (spots l p c)))) dock_from

  loops_few : length (loops_of l c) ≤ length (filter (λ e. (edge_at l e).source.child == c) (range_with_len 0 (length l.edges)))
  loops_few = filter_less (λ e. is_loop l e && ((edge_at l e).source.child == c)) (λ e. (edge_at l e).source.child == c) (range_with_len 0 (length l.edges))
      (λ e h. (and_parts (is_loop l e) ((edge_at l e).source.child == c) h).1)

  -- the lanes on a side
  pub lanes_few : (side : Side) → length (lanes l p o c side) ≤ length (filter (λ e. (edge_at l e).source.child == c) (range_with_len 0 (length l.edges))) + length (filter (λ m. (spoke l m).child == c) (all_ends l))
  lanes_few side =
      let loops : List ℕ = filter (λ e. list_any (is_side side) (loop_sides l p o e)) (loops_of l c) in
      let docks : List Dock = filter (λ d. is_side (lane_side l d) side) (docks_with_lane l p o c) in
      both _ _ _ _ _ _ _ _ _
      (length-append (map (λ e. loop_lane e side) loops) (map (λ d. dock_lane d) docks))
      (length-map loops (λ e. loop_lane e side)) (length-map docks (λ d. dock_lane d))
      (filter_short (λ e. list_any (is_side side) (loop_sides l p o e)) (loops_of l c)) loops_few
      (filter_short (λ d. is_side (lane_side l d) side) (docks_with_lane l p o c)) docks_few
    where
      both : (n a b x y u v s t : ℕ) → n ≡ a + b → a ≡ x → b ≡ y → x ≤ u → u ≤ s → y ≤ v → v ≤ t → n ≤ s + t
      both n a b x y u v s t e f g h k m r = omega (arith, e, f, g, h, k, m, r)
