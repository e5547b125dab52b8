-- The rank of a link's end is the same for all plans that turn the same edges round, under any orders of their sides.
use Rattle.std.proofs.Common.{◌≡◌, ℕ, ◌+◌, ◌<◌, ◌&&◌, ◌||◌, not, Bool, true, false, cond, List, [], ◌∷◌, length, pos, ℤ, refl, sym, subst, ap, ap₂, ◌∙◌, IfSome}
use Rattle.std.specs.Prelude.{Option, None, Some, int_lt, is_some}
use Rattle.std.specs.Ordering.{int_eq}
use Rattle.std.specs.List.{filter, list_any}
use Rattle.drawing_types.specs.declared.shape.Side.{Side}
use Rattle.drawing_types.specs.declared.shape.Side.TheVariants.{North, East, South, West}
use Rattle.drawing_types.specs.declared.shape.Dock.{Dock}
use Rattle.elk_doc.specs.declared.document.PortRule.{PortRule}
use Rattle.elk_doc.specs.declared.document.PortRule.TheVariants.{Free, FixedSide, FixedOrder, FixedPos}
use Rattle.elk_doc.specs.PortsKept.{pins, size_along}
use Rattle.port_order.specs.declared.children.Child.{Child}
use Rattle.port_order.specs.Child.{is_pinned, port_at}
use Rattle.port_order.specs.Sides.{is_mirrored, side_by_flow, side_of}
use Rattle.port_order.specs.Order.{IsSpreadOn}
use Rattle.port_order.specs.Places.{offset_of, place_in, spread_offset, rotated_spread}
use Rattle.self_loops.specs.Loops.{is_upright}
use Rattle.level_model.proofs.Lists.{filter_has}
use Rattle.level_model.proofs.SpotLemmas.{spoke_there}
use Rattle.level_model.specs.Level.{End, Orders, PlainLevel, PlainPlan, child_at, dock_of_spot, enters, implicit_spot, is_loop, port_spot, spoke, spot_at_port, spots}
use Rattle.level_model.specs.Lanes.{lane_side}
use Rattle.level_model.specs.Nets.{inverts}
use Rattle.level_model.specs.Units.{AreOrders, is_fixed, is_pinned_port, is_spread_fixed, lane_rank, last_rank, link_side, offset_first, pinned_on, port_rank, ports_on}
use Rattle.dock_table.proofs.WholeLemmas.{number_port}
use Rattle.level_nets.proofs.ListLemmas.{filter_same}
use Rattle.layer_units.specs.Laws.{NeedNoRows}
use Rattle.layer_units.proofs.PlaceLemmas.{Holds}
use Rattle.layer_units.proofs.SideLemmas.{order_long, port_place_same, port_there}
use Rattle.layer_units.proofs.SpotLemmas.{enters_same, passing_plan, have_ports, same_ports, same_spots, side_same}

-- ---- the rank of an end by its child, the child's rule and its port

abbrev pub lies_on_lane : PlainLevel → PlainPlan → End → Side → Bool
lies_on_lane l p n side = is_upright side || (not (is_loop l n.edge) && inverts side (enters p n))

abbrev pub rank_by : PlainLevel → PlainPlan → Orders → End → ℕ → PortRule → Option ℕ → ℕ
rank_by l p o n c rule port =
    let pinned = is_pinned_port (child_at l c) port in
    let last = last_rank l p c (link_side p n) rule in
    let d = dock_of_spot l o c (spot_at_port l p c n port) in
    cond (not (is_fixed rule)) 0
    (cond (is_spread_fixed rule port pinned) (last + 1)
    (cond (lies_on_lane l p n d.side) (lane_rank last (lane_side l d)) (port_rank l p o c (link_side p n) rule port pinned)))

-- that of an end at a port under fixed positions, by whether the port is pinned
abbrev at_place : PlainLevel → PlainPlan → Orders → End → ℕ → ℕ → Bool → ℕ
at_place l p o n c k b =
    cond (not b) (last_rank l p c (link_side p n) FixedPos + 1)
    (cond (lies_on_lane l p n (side_of (child_at l c) (port_spot l p c k))) (lane_rank (last_rank l p c (link_side p n) FixedPos) (lane_side l (dock_of_spot l o c (port_spot l p c k))))
    (port_rank l p o c (link_side p n) FixedPos (Some k) b))

-- an end that lies on no lane lies on the side of its link
pub beside : (side : Side) (b : Bool) → (is_upright side || inverts side b) ≡ false → side ≡ cond b West East
beside North b h = absurd (let bad : true ≡ false = h in cc)
beside East true h = absurd (let bad : true ≡ false = h in cc)
beside East false h = refl
beside South b h = absurd (let bad : true ≡ false = h in cc)
beside West true h = refl
beside West false h = absurd (let bad : true ≡ false = h in cc)

-- an implicit end of a link lies on no lane
pub implicit_beside : (l : PlainLevel) (p : PlainPlan) (c : ℕ) (n : End) → is_loop l n.edge ≡ false → lies_on_lane l p n (side_of (child_at l c) (implicit_spot l p c n)) ≡ false
implicit_beside l p c n loop =
    subst (λ b. (is_upright (side_by_flow (list_any (λ m. enters p m) (cond (not b) (n ∷ []) []) && not (list_any (λ m. not (enters p m)) (cond (not b) (n ∷ []) []))))
    || (not b && inverts (side_by_flow (list_any (λ m. enters p m) (cond (not b) (n ∷ []) []) && not (list_any (λ m. not (enters p m)) (cond (not b) (n ∷ []) [])))) (enters p n))) ≡ false) (sym loop) (by (enters p n))
  where
    by : (b : Bool) → (is_upright (side_by_flow (list_any (λ (x : Bool). x) (b ∷ []) && not (list_any (λ (x : Bool). not x) (b ∷ [])))) || inverts (side_by_flow (list_any (λ (x : Bool). x) (b ∷ []) && not (list_any (λ (x : Bool). not x) (b ∷ [])))) b) ≡ false
    by true = refl
    by false = refl

pub either : (b d : Bool) (v w x y : ℕ) → b ≡ d → v ≡ w → (b ≡ false → x ≡ y) → cond b v x ≡ cond d w y
either true d v w x y e vw xy = subst (λ z. v ≡ cond z w y) e vw
either false d v w x y e vw xy = subst (λ z. x ≡ cond z w y) e (xy refl)

pub off_lane : (b : Bool) (x y : ℕ) → b ≡ false → cond b x y ≡ y
off_lane b x y e = ap (λ z. cond z x y) e

-- a port of a child in a fixed order is spread, and a pinned one stands where it is given
fixed_offset : (c : Child) (side : Side) (k : ℕ) (order : List ℕ) → c.rule ≡ FixedOrder → offset_of c side (is_pinned c k) (Some k) order k ≡ spread_offset c side order k
fixed_offset c side k order fixed = ap (λ r. offset_of c side (pins r (not c.compound) (is_some (port_at c k).side)) (Some k) order k) fixed

pub fixed_spread : (c : Child) (k : ℕ) → c.rule ≡ FixedOrder → is_pinned c k ≡ false
fixed_spread c k fixed = ap (λ r. pins r (not c.compound) (is_some (port_at c k).side)) fixed

pinned_offset : (c : Child) (side : Side) (k : ℕ) (order other : List ℕ) → is_pinned c k ≡ true → offset_of c side (is_pinned c k) (Some k) order k ≡ offset_of c side (is_pinned c k) (Some k) other k
pinned_offset c side k order other pinned =
    ap (λ b. offset_of c side b (Some k) order k) pinned ∙ sym (ap (λ b. offset_of c side b (Some k) other k) pinned)

module _ (l : PlainLevel) (p q : PlainPlan) (o r : Orders) (is_reversed : p.reversed ≡ q.reversed) where
  link_side_same : (n : End) → link_side p n ≡ link_side q n
  link_side_same n = ap (λ b. cond b West East) (enters_same l p q is_reversed n)

  on_lane_same : (n : End) (side : Side) → lies_on_lane l p n side ≡ lies_on_lane l q n side
  on_lane_same n side = ap (λ b. is_upright side || (not (is_loop l n.edge) && inverts side b)) (enters_same l p q is_reversed n)

  last_same : (c : ℕ) (side : Side) (rule : PortRule) → last_rank l p c side rule ≡ last_rank l q c side rule
  last_same c side Free = refl
  last_same c side FixedSide = refl
  last_same c side FixedOrder = ap (λ x. length (ports_on l (passing_plan x) c side)) is_reversed
  last_same c side FixedPos = ap (λ x. length (pinned_on l (passing_plan x) c side)) is_reversed

  last_here : (n : End) (c : ℕ) (rule : PortRule) → last_rank l p c (link_side p n) rule ≡ last_rank l q c (link_side q n) rule
  last_here n c rule = last_same c (link_side p n) rule ∙ ap (λ s. last_rank l q c s rule) (link_side_same n)

  port_side_same : (c k : ℕ) → side_of (child_at l c) (port_spot l p c k) ≡ side_of (child_at l c) (port_spot l q c k)
  port_side_same c k = side_same l p q is_reversed (child_at l c) (Some k) k _

  -- docks whose offsets are the same on one side
  dock_from : (c k : ℕ)
      → offset_of (child_at l c) (side_of (child_at l c) (port_spot l p c k)) (is_pinned (child_at l c) k) (Some k) (o c (side_of (child_at l c) (port_spot l p c k))) k
      ≡ offset_of (child_at l c) (side_of (child_at l c) (port_spot l p c k)) (is_pinned (child_at l c) k) (Some k) (r c (side_of (child_at l c) (port_spot l p c k))) k
      → dock_of_spot l o c (port_spot l p c k) ≡ dock_of_spot l r c (port_spot l q c k)
  dock_from c k offset =
      let as_dock : Side → ℤ → Dock = λ s z. record { node = c; side = s; offset = z } in
      ap (as_dock (side_of (child_at l c) (port_spot l p c k))) offset
      ∙ ap (λ s. as_dock s (offset_of (child_at l c) s (is_pinned (child_at l c) k) (Some k) (r c s) k)) (port_side_same c k)

  pub pinned_dock_same : (c k : ℕ) → is_pinned (child_at l c) k ≡ true → dock_of_spot l o c (port_spot l p c k) ≡ dock_of_spot l r c (port_spot l q c k)
  pinned_dock_same c k pinned =
      dock_from c k
      (pinned_offset (child_at l c) (side_of (child_at l c) (port_spot l p c k)) k (o c (side_of (child_at l c) (port_spot l p c k))) (r c (side_of (child_at l c) (port_spot l p c k))) pinned)

  -- the number of pinned ports that come before a pinned one
  first_same : (c j k : ℕ) → is_pinned (child_at l c) j ≡ true → is_pinned (child_at l c) k ≡ true → offset_first l p o c j k ≡ offset_first l q r c j k
  first_same c j k pj pk =
      ap₂ (λ (a b : Dock). int_lt a.offset b.offset || (int_eq a.offset b.offset && int_lt (pos j) (pos k))) (pinned_dock_same c j pj) (pinned_dock_same c k pk)

  pub count_same : (c k : ℕ) (side : Side) → is_pinned (child_at l c) k ≡ true → length (filter (λ j. offset_first l p o c j k) (pinned_on l p c side)) ≡ length (filter (λ j. offset_first l q r c j k) (pinned_on l q c side))
  count_same c k side pinned =
      ap (λ (js : List ℕ). length js)
      (filter_same (λ j. offset_first l p o c j k) (λ j. offset_first l q r c j k) (pinned_on l p c side) (λ j h. first_same c j k (filter_has (is_pinned (child_at l c)) (ports_on l p c side) j h).1 pinned))
      ∙ ap (λ x. length (filter (λ j. offset_first l q r c j k) (pinned_on l (passing_plan x) c side))) is_reversed

  module _ (are : AreOrders l p o) (also : AreOrders l q r) (c : ℕ) (inside : c < length l.children) where
    on_side : (k : ℕ) (side : Side) → (child_at l c).rule ≡ FixedOrder → k < length (child_at l c).ports → side_of (child_at l c) (port_spot l p c k) ≡ side → Holds (o c side) k
    on_side k side fixed less at =
        port_there (child_at l c) side (spots l p c) (o c side) (have_ports l p c) (are c side inside) k less
        (subst (IsSpreadOn (child_at l c) side) (sym (number_port l p c k less).1) (record { spread = fixed_spread (child_at l c) k fixed; on_side = at }))

    pub place_same : (k : ℕ) (side : Side) → (child_at l c).rule ≡ FixedOrder → k < length (child_at l c).ports → side_of (child_at l c) (port_spot l p c k) ≡ side → place_in (o c side) k ≡ place_in (r c side) k
    place_same k side fixed less at =
        port_place_same (child_at l c) side (spots l p c) (spots l q c) (o c side) (r c side) fixed (have_ports l p c) (have_ports l q c) (same_ports l p q is_reversed c) (are c side inside) (also c side inside) k less
        (on_side k side fixed less at)

    long_same : (side : Side) → length (o c side) ≡ length (r c side)
    long_same side = order_long (child_at l c) side (spots l p c) (spots l q c) (o c side) (r c side) (have_ports l p c) (have_ports l q c) (same_spots l p q is_reversed c) (are c side inside) (also c side inside)

    fixed_dock_same : (k : ℕ) → (child_at l c).rule ≡ FixedOrder → k < length (child_at l c).ports → dock_of_spot l o c (port_spot l p c k) ≡ dock_of_spot l r c (port_spot l q c k)
    fixed_dock_same k fixed less =
        let side = side_of (child_at l c) (port_spot l p c k) in
        dock_from c k
        (fixed_offset (child_at l c) (side_of (child_at l c) (port_spot l p c k)) k (o c (side_of (child_at l c) (port_spot l p c k))) fixed
        ∙ ap₂ (λ (m i : ℕ). rotated_spread (is_mirrored (child_at l c).direction (side_of (child_at l c) (port_spot l p c k))) (size_along (side_of (child_at l c) (port_spot l p c k)) (child_at l c).size) m i)
        (long_same (side_of (child_at l c) (port_spot l p c k))) (place_same k (side_of (child_at l c) (port_spot l p c k)) fixed less refl)
        ∙ sym (fixed_offset (child_at l c) (side_of (child_at l c) (port_spot l p c k)) k (r c (side_of (child_at l c) (port_spot l p c k))) fixed))

    -- the side of an end that lies on no lane
    port_beside : (n : End) (k : ℕ) → is_loop l n.edge ≡ false → lies_on_lane l p n (side_of (child_at l c) (port_spot l p c k)) ≡ false → side_of (child_at l c) (port_spot l p c k) ≡ link_side p n
    port_beside n k loop off =
        beside (side_of (child_at l c) (port_spot l p c k)) (enters p n)
        (subst (λ b. (is_upright (side_of (child_at l c) (port_spot l p c k)) || (not b && inverts (side_of (child_at l c) (port_spot l p c k)) (enters p n))) ≡ false) loop off)

    implicit_same : (n : End) (rule : PortRule) → is_loop l n.edge ≡ false
        → cond (lies_on_lane l p n (side_of (child_at l c) (implicit_spot l p c n))) (lane_rank (last_rank l p c (link_side p n) rule) (lane_side l (dock_of_spot l o c (implicit_spot l p c n)))) (last_rank l p c (link_side p n) rule + 1)
        ≡ cond (lies_on_lane l q n (side_of (child_at l c) (implicit_spot l q c n))) (lane_rank (last_rank l q c (link_side q n) rule) (lane_side l (dock_of_spot l r c (implicit_spot l q c n)))) (last_rank l q c (link_side q n) rule + 1)
    implicit_same n rule loop =
        off_lane _ _ _ (implicit_beside l p c n loop) ∙ ap (λ m. m + 1) (last_here n c rule) ∙ sym (off_lane _ _ _ (implicit_beside l q c n loop))

    ported : (n : End) (rule : PortRule) (k : ℕ) (x y : ℕ) → dock_of_spot l o c (port_spot l p c k) ≡ dock_of_spot l r c (port_spot l q c k) → (lies_on_lane l p n (side_of (child_at l c) (port_spot l p c k)) ≡ false → x ≡ y)
        → cond (lies_on_lane l p n (side_of (child_at l c) (port_spot l p c k))) (lane_rank (last_rank l p c (link_side p n) rule) (lane_side l (dock_of_spot l o c (port_spot l p c k)))) x
        ≡ cond (lies_on_lane l q n (side_of (child_at l c) (port_spot l q c k))) (lane_rank (last_rank l q c (link_side q n) rule) (lane_side l (dock_of_spot l r c (port_spot l q c k)))) y
    ported n rule k x y dock same =
        either (lies_on_lane l p n (side_of (child_at l c) (port_spot l p c k))) (lies_on_lane l q n (side_of (child_at l c) (port_spot l q c k))) _ _ x y
        (ap (lies_on_lane l p n) (port_side_same c k) ∙ on_lane_same n (side_of (child_at l c) (port_spot l q c k)))
        (ap₂ (λ (m : ℕ) (d : Dock). lane_rank m (lane_side l d)) (last_here n c rule) dock) same

    same_by : (n : End) (rule : PortRule) (port : Option ℕ) → is_loop l n.edge ≡ false → (child_at l c).rule ≡ rule → IfSome port (λ k. k < length (child_at l c).ports)
        → rank_by l p o n c rule port ≡ rank_by l q r n c rule port
    same_by n Free port loop fixed less = refl
    same_by n FixedSide port loop fixed less = refl
    same_by n FixedOrder None loop fixed less = implicit_same n FixedOrder loop
    same_by n FixedPos None loop fixed less = implicit_same n FixedPos loop
    same_by n FixedOrder (Some k) loop fixed less =
        ported n FixedOrder k (place_in (o c (link_side p n)) k + 1) (place_in (r c (link_side q n)) k + 1) (fixed_dock_same k fixed less)
        (λ off. ap (λ m. m + 1) (place_same k (link_side p n) fixed less (port_beside n k loop off) ∙ ap (λ s. place_in (r c s) k) (link_side_same n)))
    same_by n FixedPos (Some k) loop fixed less = by (is_pinned (child_at l c) k) refl
      where
        by : (b : Bool) → is_pinned (child_at l c) k ≡ b → at_place l p o n c k (is_pinned (child_at l c) k) ≡ at_place l q r n c k (is_pinned (child_at l c) k)
        by true pinned =
            subst (λ b. at_place l p o n c k b ≡ at_place l q r n c k b) (sym pinned)
            (ported n FixedPos k _ _ (pinned_dock_same c k pinned)
            (λ off. ap (λ m. m + 1) (count_same c k (link_side p n) pinned ∙ ap (λ s. length (filter (λ j. offset_first l q r c j k) (pinned_on l q c s))) (link_side_same n))))
        by false pinned = subst (λ b. at_place l p o n c k b ≡ at_place l q r n c k b) (sym pinned) (ap (λ m. m + 1) (last_here n c FixedPos))

pub need_no_rows : NeedNoRows
need_no_rows l p q o r n level is_reversed are also inside loop =
    let there = spoke_there l n.edge n.at_source level inside in
    same_by l p q o r is_reversed are also (spoke l n).child there.child n (child_at l (spoke l n).child).rule (spoke l n).port loop refl there.port
