-- Children, ends and their anchors stand in the unit and the column of their child.
use Rattle.std.proofs.Common.{◌≡◌, ⊎_elim, ℕ, ◌<◌, eqb, Bool, ℤ, pos, ◌+ℤ◌, ◌-ℤ◌, ◌≤ℤ◌, List, [], ◌∷◌, length, refl, sym, subst, ap, ◌∙◌, arith}
use Rattle.std.proofs.lemmas.Int.{ints, clamps}
use Rattle.std.proofs.lemmas.Bool.{cases_Bool, eq-eqb}
use Rattle.std.specs.Prelude.{Option, None, Some, IfSome}
use Rattle.std.specs.Int.{int_max}
use Rattle.std.specs.List.{range_with_len}
use Rattle.drawing_types.specs.declared.shape.Point.{Point}
use Rattle.drawing_types.specs.declared.shape.Side.{Side}
use Rattle.drawing_types.specs.declared.shape.Side.TheVariants.{North, East, South, West}
use Rattle.drawing_types.specs.Shapes.{rect_at, moved_by, point_rect}
use Rattle.port_order.specs.declared.children.Child.{Child}
use Rattle.port_order.specs.Sides.{side_of}
use Rattle.port_order.specs.Places.{anchor_at}
use Rattle.port_order.specs.Laws.{IsOutward as IsOutwardOf}
use Rattle.port_order.proofs.KeptLemmas.{ports_stand, dock_inside}
use Rattle.elk_layers.specs.Layered.{layer_of}
use Rattle.elk_layers.specs.Lines.{top_of}
use Rattle.route_lines.specs.Points.{gap_in}
use Rattle.level_model.specs.Stage.{ChildStands, EndStands, IsInOutline, IsOutward, offset_along}
use Rattle.level_model.specs.Level.{PlainLevel, PlainPlan, Orders, End, end_at, implicit_ends, child_at, spoke, spot_of, spot_at_port, port_spot, implicit_spot, dock_of_spot, anchor_of_spot, outline}
use Rattle.level_model.specs.Lanes.{lanes, lanes_room, body_top}
use Rattle.level_model.specs.Nets.{unit_of, layer_of_child, widest, column_width}
use Rattle.level_model.specs.FromPlan.{LevelDrawing, box_place, IsDrawnFrom}
use Rattle.level_model.specs.Drawing.{stage}
use Rattle.level_model.specs.Ready.{IsReady}
use Rattle.level_model.specs.Conditions.{IsLevel}
use Rattle.level_model.specs.Units.{AreOrders}
use Rattle.level_model.proofs.Lists.{Has, has_range}
use Rattle.level_model.proofs.Widths.{outer_from_zero}
use Rattle.level_model.proofs.GapLemmas.{next_left}
use Rattle.level_model.proofs.SpotLemmas.{spoke_there, at_child, implicit_spot_there, end_is_spot, held_once}
use Rattle.level_model.proofs.OutlineLemmas.{outline_holds_box, outline_holds_port, in_holder, port_anchor, end_anchor, up_to_face}

-- a column holds the outlines of its children
widest_holds : (l : PlainLevel) (p : PlainPlan) (o : Orders) (r c : ℕ) (cs : List ℕ) → Has cs c → layer_of_child p c ≡ r → (outline l p o c).width ≤ℤ widest l p o r cs
widest_holds l p o r c [] h e = absurd h
widest_holds l p o r c (b ∷ cs) h e =
    ⊎_elim
    (λ (same : b ≡ c). rw (eq-eqb (layer_of_child p b) r (ap (layer_of_child p) same ∙ e)) (subst (λ z. (outline l p o c).width ≤ℤ int_max (outline l p o z).width (widest l p o r cs)) (sym same) (first (outline l p o c).width (widest l p o r cs))))
    (λ rest. let held = widest_holds l p o r c cs rest e in
    ⊎_elim (λ t. rw t (more _ (outline l p o b).width _ held)) (λ f. rw f held) (cases_Bool (eqb (layer_of_child p b) r)))
    h
  where
    first : (a b : ℤ) → a ≤ℤ int_max a b
    first a b = omega (arith, ints, clamps)

    more : (z a b : ℤ) → z ≤ℤ b → z ≤ℤ int_max a b
    more z a b h = omega (arith, ints, clamps, h)

pub within_column : (l : PlainLevel) (p : PlainPlan) (o : Orders) (c : ℕ) → c < length l.children → (outline l p o c).width ≤ℤ column_width l p o (layer_of_child p c)
within_column l p o c h = widest_holds l p o (layer_of_child p c) c (range_with_len 0 (length l.children)) (has_range 0 (length l.children) c (omega arith) (omega (arith, h))) refl

within_width : (r x w v left : ℤ) → left ≡ r +ℤ v → w ≤ℤ v → (((r -ℤ x) +ℤ x) +ℤ w) ≤ℤ left
within_width r x w v left e h = omega (arith, ints, e, h)

below_unit_top : (t b y z : ℤ) → pos 0 ≤ℤ b → (t -ℤ z) ≤ℤ (((t +ℤ (b -ℤ y)) -ℤ z) +ℤ y)
below_unit_top t b y z h = omega (arith, ints, h)

above_unit_bottom : (t b y z h s u : ℤ) → u ≡ b +ℤ h +ℤ s → pos 0 ≤ℤ s → ((((t +ℤ (b -ℤ y)) -ℤ z) +ℤ y) +ℤ h) ≤ℤ ((t +ℤ u) -ℤ z)
above_unit_bottom t b y z h s u e k = omega (arith, ints, e, k)

moved_low : (b x z : ℤ) → x ≤ℤ z → (b +ℤ x) ≤ℤ (b +ℤ z)
moved_low b x z h = omega (arith, ints, h)

moved_point : (b x w z : ℤ) → z ≤ℤ (x +ℤ w) → (b +ℤ z) ≤ℤ ((b +ℤ x) +ℤ w)
moved_point b x w z h = omega (arith, ints, h)

box_low : (b x : ℤ) → x ≤ℤ pos 0 → (b +ℤ x) ≤ℤ b
box_low b x h = omega (arith, ints, h)

box_high : (b x w v : ℤ) → (pos 0 +ℤ v) ≤ℤ (x +ℤ w) → (b +ℤ v) ≤ℤ ((b +ℤ x) +ℤ w)
box_high b x w v h = omega (arith, ints, h)

module _ (l : PlainLevel) (p : PlainPlan) (o : Orders) (level : IsLevel l) (orders : AreOrders l p o) where
  -- the room of lanes is not less than nothing
  pub lanes_from_zero : (n : ℕ) → pos 0 ≤ℤ lanes_room l n
  lanes_from_zero n = outer_from_zero n l.spacing.edge_node l.spacing.edge_edge level.spacing.edge_node.above level.spacing.edge_edge.above

  -- an outline is not higher than nothing
  pub outline_deep : (c : ℕ) → c < length l.children → pos 0 ≤ℤ (outline l p o c).height
  outline_deep c h = let box = outline_holds_box l p o c in deep (outline l p o c).y (outline l p o c).height (child_at l c).size.height box.top box.bottom (level.children c h).sound.size.height.above
    where
      deep : (y v h : ℤ) → y ≤ℤ pos 0 → (pos 0 +ℤ h) ≤ℤ (y +ℤ v) → pos 0 ≤ℤ h → pos 0 ≤ℤ v
      deep y v h a b c = omega (arith, ints, a, b, c)

  -- the anchor of a spot lies in its child's outline, relative to the box
  port_anchor_in : (c k : ℕ) → c < length l.children → k < length (child_at l c).ports → IsInOutline (outline l p o c) (anchor_of_spot l o c (port_spot l p c k))
  port_anchor_in c k h less =
      in_holder _ _ _ (outline_holds_port l p o c k less)
      (port_anchor (child_at l c) (port_spot l p c k) k (dock_of_spot l o c (port_spot l p c k)).offset refl ((level.children c h).sound.ports k less))

  implicit_anchor_in : (c : ℕ) (n : End) → c < length l.children → Has (implicit_ends l c) n → IsInOutline (outline l p o c) (anchor_of_spot l o c (implicit_spot l p c n))
  implicit_anchor_in c n h has =
      in_holder _ _ _ (outline_holds_box l p o c)
      (end_anchor (side_of (child_at l c) (implicit_spot l p c n)) (dock_of_spot l o c (implicit_spot l p c n)).offset (child_at l c).size (level.children c h).sound.size
      (dock_inside (child_at l c) (implicit_spot l p c n) (o c (side_of (child_at l c) (implicit_spot l p c n))) (level.children c h).sound
      (held_once l p o c (implicit_spot l p c n) orders h (implicit_spot_there l p c n has)) refl))

  pub anchor_in : (e : ℕ) (t : Bool) → e < length l.edges → IsInOutline (outline l p o (spoke l (end_at e t)).child) (anchor_of_spot l o (spoke l (end_at e t)).child (spot_of l p (end_at e t)))
  anchor_in e t h = step (spoke l (end_at e t)).port refl (spoke_there l e t level h).port
    where
      step : (port : Option ℕ) → (spoke l (end_at e t)).port ≡ port → IfSome port (λ k. k < length (child_at l (spoke l (end_at e t)).child).ports)
          → IsInOutline (outline l p o (spoke l (end_at e t)).child) (anchor_of_spot l o (spoke l (end_at e t)).child (spot_at_port l p (spoke l (end_at e t)).child (end_at e t) port))
      step (Some k) port less = port_anchor_in (spoke l (end_at e t)).child k (spoke_there l e t level h).child less
      step None port less = implicit_anchor_in (spoke l (end_at e t)).child (end_at e t) (spoke_there l e t level h).child (at_child l e t h port)

module _ (l : PlainLevel) (p : PlainPlan) (o : Orders) (layers : List ℕ) (ready : IsReady l p o layers) where
  pub column_there : (u : ℕ) → u < length p.layered.units → layer_of p.layered u < p.layers
  column_there u h = let less = ready.sound.layers_are u h in let e = ready.layers_are in omega (arith, less, e)

  pub child_unit : (c : ℕ) → c < length l.children → unit_of p c < length p.layered.units
  child_unit c h = (ready.units.linked.children c h).in_range

  module _ (d : LevelDrawing) (drawn : IsDrawnFrom l p o d) where
    pub child_stands : (c : ℕ) → c < length l.children → ChildStands (stage l p o d) c
    child_stands c h =
        let room = ready.units.rooms c h in
        let unit = child_unit c h in
        let size = (ready.level.children c h).sound.size in
        let box = outline_holds_box l p o c in
        let place = box_place l p o d c in
        record {
          there = h;
          unit = unit;
          column = column_there (unit_of p c) unit;
          left = up_to_face (gap_in d.gaps (layer_of_child p c)).right (outline l p o c).x;
          right = within_width (gap_in d.gaps (layer_of_child p c)).right (outline l p o c).x _ _ _ (next_left l p o d ready.level.spacing drawn (layer_of_child p c) (column_there (unit_of p c) unit)) (within_column l p o c h);
          top = below_unit_top (top_of p.tops (unit_of p c)) (body_top l p o c) (outline l p o c).y d.top (lanes_from_zero l p o ready.level ready.units.orders (length (lanes l p o c North)));
          bottom = above_unit_bottom (top_of p.tops (unit_of p c)) (body_top l p o c) (outline l p o c).y d.top (outline l p o c).height _ _ room.height (lanes_from_zero l p o ready.level ready.units.orders (length (lanes l p o c South)));
          box_left = box_low place.x (outline l p o c).x box.left;
          box_right = box_high place.x (outline l p o c).x (outline l p o c).width (child_at l c).size.width box.right;
          box_top = box_low place.y (outline l p o c).y box.top;
          box_bottom = box_high place.y (outline l p o c).y (outline l p o c).height (child_at l c).size.height box.bottom;
          wide = size.width.above;
          high = size.height.above;
        }

    end_outward : (side : Side) (b : Point) (child : Child) (a : Point) → IsOutwardOf side child.size a → IsOutward side (rect_at b child.size) (moved_by (point_rect b) a)
    end_outward North b child a h = box_low b.y a.y h
    end_outward East b child a h = moved_low b.x child.size.width a.x h
    end_outward South b child a h = moved_low b.y child.size.height a.y h
    end_outward West b child a h = box_low b.x a.x h

    -- along its side an anchor stands at its dock's offset
    end_offset : (side : Side) (b : Point) (child : Child) (port : Option ℕ) (offset : ℤ) → offset_along side (rect_at b child.size) (moved_by (point_rect b) (anchor_at child side port offset)) offset
    end_offset North b child (Some k) offset = refl
    end_offset North b child None offset = refl
    end_offset East b child (Some k) offset = refl
    end_offset East b child None offset = refl
    end_offset South b child (Some k) offset = refl
    end_offset South b child None offset = refl
    end_offset West b child (Some k) offset = refl
    end_offset West b child None offset = refl

    pub end_stands : (e : ℕ) (t : Bool) → e < length l.edges → EndStands (stage l p o d) e t
    end_stands e t h =
        let c = (spoke l (end_at e t)).child in
        let s = spot_of l p (end_at e t) in
        let place = box_place l p o d c in
        let rel = anchor_in l p o ready.level ready.units.orders e t h in
        let out = outline l p o c in
        let at = anchor_of_spot l o c s in
        record {
          child = child_stands c (spoke_there l e t ready.level h).child;
          in_outline = record { left = moved_low place.x out.x at.x rel.left; right = moved_point place.x out.x out.width at.x rel.right; top = moved_low place.y out.y at.y rel.top; bottom = moved_point place.y out.y out.height at.y rel.bottom };
          outward = end_outward (side_of (child_at l c) s) place (child_at l c) (anchor_of_spot l o c s)
              (ports_stand.outward (child_at l c) s (dock_of_spot l o c s).offset (ready.level.children c (spoke_there l e t ready.level h).child).sound (end_is_spot l p e t ready.level h));
          offset = end_offset (side_of (child_at l c) s) place (child_at l c) s.port (dock_of_spot l o c s).offset;
        }
