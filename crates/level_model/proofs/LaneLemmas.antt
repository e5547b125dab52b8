-- The lanes of a child: which lines are among them, and how high they stand.
use Rattle.std.proofs.Common.{◌≡◌, ◌⊎◌, inl, inr, ⊎_elim, ℕ, ◌<◌, eqb, Bool, true, false, not, ◌&&◌, ◌||◌, ◌+ℤ◌, List, [], ◌∷◌, map, length, refl, arith}
use Rattle.std.proofs.lemmas.Bool.{cases_Bool, and_from, eq-eqb, or_left, or_right, not_from_false}
use Rattle.std.specs.Prelude.{Option, None, Some, int_lt}
use Rattle.std.specs.List.{filter, list_any, range_with_len}
use Rattle.drawing_types.specs.declared.shape.Side.{Side}
use Rattle.drawing_types.specs.declared.shape.Side.TheVariants.{North, East, South, West}
use Rattle.drawing_types.specs.declared.shape.Dock.{Dock}
use Rattle.drawing_types.specs.Shapes.{is_side}
use Rattle.port_order.specs.declared.spots.Spot.{Spot}
use Rattle.self_loops.specs.Loops.{is_upright}
use Rattle.level_model.specs.Stage.{Line, dock_lane, loop_lane}
use Rattle.level_model.specs.Level.{PlainLevel, PlainPlan, Orders, End, end_at, child_at, edge_at, spoke, is_loop, enters, linked, ends_at_port, spots, spot_of, spot_at_port, dock_of, dock_of_spot}
use Rattle.level_model.specs.Lanes.{dock_eq, once, asks_lane, has_lane, docks_with_lane, lane_side, loops_of, loop_sides, lanes, loop_lane_height}
use Rattle.level_model.specs.Nets.{unit_of, unit_of_line, below_top, inverts}
use Rattle.level_model.specs.Conditions.{IsLevel}
use Rattle.level_model.proofs.Lists.{Has, has_filter, has_map, has_left, has_right, has_range, has_any}
use Rattle.level_model.proofs.SameLines.{dock_eq-same, dock_eq-self}
use Rattle.level_model.proofs.SpotLemmas.{spot_there, at_port}
use Rattle.port_order.proofs.OrderLemmas.{side_itself}

-- each dock of a list is there once
once_has : (ds : List Dock) (d : Dock) → Has ds d → Has (once ds) d
once_has [] d h = absurd h
once_has (k ∷ ks) d h =
    ⊎_elim
    (λ same. inl same)
    (λ rest.
    ⊎_elim
    (λ one. inl (dock_eq-same k d one))
    (λ other. inr (has_filter (λ j. not (dock_eq k j)) (once ks) d (once_has ks d rest) (not_from_false (dock_eq k d) other)))
    (cases_Bool (dock_eq k d)))
    h

-- a spot counts what its ends do
enters_of : (l : PlainLevel) (p : PlainPlan) (n : End) (ns : List End) → Has ns n → is_loop l n.edge ≡ false → enters p n ≡ true → list_any (λ m. enters p m) (linked l ns) ≡ true
enters_of l p n ns h loop e = has_any (λ m. enters p m) (linked l ns) n (has_filter (λ m. not (is_loop l m.edge)) ns n h (not_from_false (is_loop l n.edge) loop)) e

leaves_of : (l : PlainLevel) (p : PlainPlan) (n : End) (ns : List End) → Has ns n → is_loop l n.edge ≡ false → enters p n ≡ false → list_any (λ m. not (enters p m)) (linked l ns) ≡ true
leaves_of l p n ns h loop e = has_any (λ m. not (enters p m)) (linked l ns) n (has_filter (λ m. not (is_loop l m.edge)) ns n h (not_from_false (is_loop l n.edge) loop)) (not_from_false (enters p n) e)

-- what an end's spot says of the flow
pub record HasFlow (l : PlainLevel) (p : PlainPlan) (n : End) (s : Spot) : Type 0 where
  pub comes : enters p n ≡ true → s.enters ≡ true
  pub goes : enters p n ≡ false → s.leaves ≡ true

pub spot_flow : (l : PlainLevel) (p : PlainPlan) (e : ℕ) (t : Bool) → e < length l.edges → is_loop l e ≡ false → HasFlow l p (end_at e t) (spot_of l p (end_at e t))
spot_flow l p e t h loop = step (spoke l (end_at e t)).port refl
  where
    step : (port : Option ℕ) → (spoke l (end_at e t)).port ≡ port → HasFlow l p (end_at e t) (spot_at_port l p (spoke l (end_at e t)).child (end_at e t) port)
    step (Some k) port =
        let has = at_port l e t k h port in
        record {
          comes = enters_of l p (end_at e t) (ends_at_port l (spoke l (end_at e t)).child k) has loop;
          goes = leaves_of l p (end_at e t) (ends_at_port l (spoke l (end_at e t)).child k) has loop;
        }
    step None port = record { comes = enters_of l p (end_at e t) (end_at e t ∷ []) (inl refl) loop; goes = leaves_of l p (end_at e t) (end_at e t ∷ []) (inl refl) loop }

-- where an end's dock lies north or south or is inverted, its spot asks for a lane
asks : (side : Side) (leaves enters b : Bool) → (b ≡ true → enters ≡ true) → (b ≡ false → leaves ≡ true) → (is_upright side || inverts side b) ≡ true → asks_lane side leaves enters ≡ true
asks North leaves enters true comes goes h = or_right leaves enters (comes refl)
asks North leaves enters false comes goes h = or_left leaves enters (goes refl)
asks South leaves enters true comes goes h = or_right leaves enters (comes refl)
asks South leaves enters false comes goes h = or_left leaves enters (goes refl)
asks East leaves enters true comes goes h = comes refl
asks East leaves enters false comes goes h = absurd cc
asks West leaves enters true comes goes h = absurd cc
asks West leaves enters false comes goes h = goes refl

-- a lane of a child, on this side of it
pub record IsLaneOf (l : PlainLevel) (p : PlainPlan) (o : Orders) (c : ℕ) (side : Side) (m : Line) : Type 0 where
  pub upright : (side ≡ North) ⊎ (side ≡ South)
  pub has : Has (lanes l p o c side) m
  pub height : below_top l p o m ≡ loop_lane_height l p o c side m
  pub unit : unit_of_line l p m ≡ unit_of p c
  pub there : c < length l.children

lane_side_upright : (l : PlainLevel) (d : Dock) → (lane_side l d ≡ North) ⊎ (lane_side l d ≡ South)
lane_side_upright l d = step d.side
  where
    step : (side : Side) → (lane_side l (record { node = d.node; side = side; offset = d.offset }) ≡ North) ⊎ (lane_side l (record { node = d.node; side = side; offset = d.offset }) ≡ South)
    step North = inl refl
    step South = inr refl
    step East = ⊎_elim (λ t. rw t (inr refl)) (λ f. rw f (inl refl)) (cases_Bool (int_lt (child_at l d.node).size.height (d.offset +ℤ d.offset)))
    step West = ⊎_elim (λ t. rw t (inr refl)) (λ f. rw f (inl refl)) (cases_Bool (int_lt (child_at l d.node).size.height (d.offset +ℤ d.offset)))

-- a dock whose spot asks for a lane has one
pub dock_has_lane : (l : PlainLevel) (p : PlainPlan) (o : Orders) (c : ℕ) (s : Spot) → Has (spots l p c) s → asks_lane (dock_of_spot l o c s).side s.leaves s.enters ≡ true → has_lane l p o c (dock_of_spot l o c s) ≡ true
dock_has_lane l p o c s has asked =
    let d = dock_of_spot l o c s in
    has_any (λ t. dock_eq (dock_of_spot l o c t) d && asks_lane d.side t.leaves t.enters) (spots l p c) s has
    (and_from (dock_eq d d) (asks_lane d.side s.leaves s.enters) (dock_eq-self d) asked)

pub has_dock_lane : (l : PlainLevel) (p : PlainPlan) (o : Orders) (c : ℕ) (s : Spot) → Has (spots l p c) s → has_lane l p o c (dock_of_spot l o c s) ≡ true
    → Has (lanes l p o c (lane_side l (dock_of_spot l o c s))) (dock_lane (dock_of_spot l o c s))
has_dock_lane l p o c s has wanted =
    let d = dock_of_spot l o c s in
    let known : Has (once (map (dock_of_spot l o c) (spots l p c))) d = once_has (map (dock_of_spot l o c) (spots l p c)) d (has_map (dock_of_spot l o c) (spots l p c) s has) in
    has_right (map (λ e. loop_lane e (lane_side l d)) (filter (λ e. list_any (is_side (lane_side l d)) (loop_sides l p o e)) (loops_of l c))) (map (λ k. dock_lane k) (filter (λ k. is_side (lane_side l k) (lane_side l d)) (docks_with_lane l p o c))) (dock_lane d)
    (has_map (λ k. dock_lane k) (filter (λ k. is_side (lane_side l k) (lane_side l d)) (docks_with_lane l p o c)) d
    (has_filter (λ k. is_side (lane_side l k) (lane_side l d)) (docks_with_lane l p o c) d
    (has_filter (has_lane l p o c) (once (map (dock_of_spot l o c) (spots l p c))) d known wanted)
    (side_itself (lane_side l d))))

-- an end's dock has a lane where it lies north or south, or is inverted for the edge
pub end_has_lane : (l : PlainLevel) (p : PlainPlan) (o : Orders) (e : ℕ) (t : Bool) → IsLevel l → e < length l.edges → is_loop l e ≡ false
    → (is_upright (dock_of l p o (end_at e t)).side || inverts (dock_of l p o (end_at e t)).side (enters p (end_at e t))) ≡ true → has_lane l p o (spoke l (end_at e t)).child (dock_of l p o (end_at e t)) ≡ true
end_has_lane l p o e t level h loop lies =
    let flow = spot_flow l p e t h loop in
    dock_has_lane l p o (spoke l (end_at e t)).child (spot_of l p (end_at e t)) (spot_there l p e t level h)
    (asks (dock_of l p o (end_at e t)).side (spot_of l p (end_at e t)).leaves (spot_of l p (end_at e t)).enters (enters p (end_at e t)) flow.comes flow.goes lies)

-- an end whose dock lies north or south, or is inverted for its edge, has a lane
pub end_lane : (l : PlainLevel) (p : PlainPlan) (o : Orders) (e : ℕ) (t : Bool) → IsLevel l → e < length l.edges → (spoke l (end_at e t)).child < length l.children → is_loop l e ≡ false
    → (is_upright (dock_of l p o (end_at e t)).side || inverts (dock_of l p o (end_at e t)).side (enters p (end_at e t))) ≡ true
    → IsLaneOf l p o (dock_of l p o (end_at e t)).node (lane_side l (dock_of l p o (end_at e t))) (dock_lane (dock_of l p o (end_at e t)))
end_lane l p o e t level h child loop lies =
    record {
      upright = lane_side_upright l (dock_of l p o (end_at e t));
      has = has_dock_lane l p o (spoke l (end_at e t)).child (spot_of l p (end_at e t)) (spot_there l p e t level h) (end_has_lane l p o e t level h loop lies);
      height = refl;
      unit = refl;
      there = child;
    }

-- a self-loop has its lanes
pub loop_has_lane : (l : PlainLevel) (p : PlainPlan) (o : Orders) (e : ℕ) (side : Side) → e < length l.edges → (edge_at l e).source.child < length l.children → is_loop l e ≡ true → (side ≡ North) ⊎ (side ≡ South)
    → list_any (is_side side) (loop_sides l p o e) ≡ true → IsLaneOf l p o (edge_at l e).source.child side (loop_lane e side)
loop_has_lane l p o e side h child loop upright some =
    let c = (edge_at l e).source.child in
    let listed : Has (loops_of l c) e =
    has_filter (λ f. is_loop l f && eqb (edge_at l f).source.child c) (range_with_len 0 (length l.edges)) e (has_range 0 (length l.edges) e (omega arith) (omega (arith, h)))
    (and_from (is_loop l e) (eqb c c) loop (eq-eqb c c refl))
    in
    record {
      upright = upright;
      has = has_left (map (λ f. loop_lane f side) (filter (λ f. list_any (is_side side) (loop_sides l p o f)) (loops_of l c))) (map (λ k. dock_lane k) (filter (λ k. is_side (lane_side l k) side) (docks_with_lane l p o c))) (loop_lane e side)
          (has_map (λ f. loop_lane f side) (filter (λ f. list_any (is_side side) (loop_sides l p o f)) (loops_of l c)) e
          (has_filter (λ f. list_any (is_side side) (loop_sides l p o f)) (loops_of l c) e listed some));
      height = refl;
      unit = refl;
      there = child;
    }
