-- A child's outline holds its box, its ports and the anchors of its ends.
use Rattle.std.proofs.Common.{◌≡◌, ⊎_elim, ℕ, ◌<◌, Bool, true, false, not, ◌&&◌, ℤ, pos, neg_ℤ, ◌+ℤ◌, ◌-ℤ◌, ◌≤ℤ◌, List, [], ◌∷◌, length, refl, subst, ◌∙◌, arith}
use Rattle.std.proofs.lemmas.Int.{ints}
use Rattle.std.specs.Prelude.{Option, None, Some}
use Rattle.std.specs.List.{range_with_len}
use Rattle.drawing_types.specs.declared.shape.Point.{Point}
use Rattle.drawing_types.specs.declared.shape.Size.{Size}
use Rattle.drawing_types.specs.declared.shape.Rect.{Rect}
use Rattle.drawing_types.specs.declared.shape.Side.{Side}
use Rattle.drawing_types.specs.declared.shape.Side.TheVariants.{North, East, South, West}
use Rattle.drawing_types.specs.Shapes.{no_size}
use Rattle.drawing_types.specs.Shapes.{rect_at, Holds}
use Rattle.drawing_types.specs.Ranges.{IsWithin}
use Rattle.elk_doc.specs.PortsKept.{size_along}
use Rattle.port_order.specs.declared.children.Child.{Child}
use Rattle.port_order.specs.declared.spots.Spot.{Spot}
use Rattle.port_order.specs.Child.{port_at}
use Rattle.port_order.specs.Sides.{side_of, side_else, given_side}
use Rattle.port_order.specs.Conditions.{IsSmall, IsChildPort}
use Rattle.port_order.specs.Places.{outer_face, on_side, corner_of, face_of, place_of_port, anchor_at}
use Rattle.level_model.specs.Stage.{IsInOutline}
use Rattle.level_model.specs.Level.{PlainLevel, PlainPlan, Orders, child_at, port_place, outline_from, outline}
use Rattle.level_model.proofs.Lists.{Has, has_range}
use Rattle.elk_doc.proofs.PlaceLaws.{Holds-first, Holds-second, Holds-trans}

holds_self : (r : Rect) → Holds r r
holds_self r = record { left = omega (arith, ints); top = omega (arith, ints); right = omega (arith, ints); bottom = omega (arith, ints) }

from_holds_box : (l : PlainLevel) (p : PlainPlan) (o : Orders) (c : ℕ) (ks : List ℕ) → Holds (outline_from l p o c ks) (rect_at (record { x = pos 0; y = pos 0 }) (child_at l c).size)
from_holds_box l p o c [] = holds_self _
from_holds_box l p o c (k ∷ ks) = Holds-trans _ _ _ (Holds-first (outline_from l p o c ks) (rect_at (port_place l p o c k) (port_at (child_at l c) k).size)) (from_holds_box l p o c ks)

from_holds_port : (l : PlainLevel) (p : PlainPlan) (o : Orders) (c k : ℕ) (ks : List ℕ) → Has ks k → Holds (outline_from l p o c ks) (rect_at (port_place l p o c k) (port_at (child_at l c) k).size)
from_holds_port l p o c k [] h = absurd h
from_holds_port l p o c k (j ∷ ks) h =
    ⊎_elim
    (λ (same : j ≡ k). subst (λ z. Holds (outline_from l p o c (j ∷ ks)) (rect_at (port_place l p o c z) (port_at (child_at l c) z).size)) same (Holds-second (outline_from l p o c ks) (rect_at (port_place l p o c j) (port_at (child_at l c) j).size)))
    (λ rest. Holds-trans _ _ _ (Holds-first (outline_from l p o c ks) (rect_at (port_place l p o c j) (port_at (child_at l c) j).size)) (from_holds_port l p o c k ks rest))
    h

pub outline_holds_box : (l : PlainLevel) (p : PlainPlan) (o : Orders) (c : ℕ) → Holds (outline l p o c) (rect_at (record { x = pos 0; y = pos 0 }) (child_at l c).size)
outline_holds_box l p o c = from_holds_box l p o c (range_with_len 0 (length (child_at l c).ports))

pub outline_holds_port : (l : PlainLevel) (p : PlainPlan) (o : Orders) (c k : ℕ) → k < length (child_at l c).ports → Holds (outline l p o c) (rect_at (port_place l p o c k) (port_at (child_at l c) k).size)
outline_holds_port l p o c k h = from_holds_port l p o c k (range_with_len 0 (length (child_at l c).ports)) (has_range 0 (length (child_at l c).ports) k (omega arith) (omega (arith, h)))

-- a point of a rectangle lies in each that holds the rectangle
pub in_holder : (r s : Rect) (a : Point) → Holds r s → IsInOutline s a → IsInOutline r a
in_holder r s a h k =
    record {
      left = omega (arith, ints, h.left, k.left);
      top = omega (arith, ints, h.top, k.top);
      right = omega (arith, ints, h.right, k.right);
      bottom = omega (arith, ints, h.bottom, k.bottom);
    }

-- the anchor of a port lies on the port
from_start : (a h : ℤ) → pos 0 ≤ℤ h → (a -ℤ h) ≤ℤ a
from_start a h k = omega (arith, ints, k)

to_end : (a h w : ℤ) → h ≤ℤ w → a ≤ℤ ((a -ℤ h) +ℤ w)
to_end a h w k = omega (arith, ints, k)

at_self : (a : ℤ) → a ≤ℤ a
at_self a = omega (arith, ints)

from_face : (a w : ℤ) → pos 0 ≤ℤ w → a ≤ℤ (a +ℤ w)
from_face a w k = omega (arith, ints, k)

to_face : (a w : ℤ) → pos 0 ≤ℤ w → (a -ℤ w) ≤ℤ a
to_face a w k = omega (arith, ints, k)

pub up_to_face : (a w : ℤ) → a ≤ℤ ((a -ℤ w) +ℤ w)
up_to_face a w = omega (arith, ints)

on_port : (side : Side) (face offset half : ℤ) (size : Size) → IsSmall size → IsWithin (pos 0) (size_along side size) half → IsInOutline (rect_at (corner_of side face (offset -ℤ half) size) size) (on_side side face offset)
on_port North face offset half size s h =
    record { left = from_start offset half h.above; right = to_end offset half size.width h.below; top = at_self face; bottom = from_face face size.height s.height.above }
on_port East face offset half size s h =
    record { left = to_face face size.width s.width.above; right = up_to_face face size.width; top = from_start offset half h.above; bottom = to_end offset half size.height h.below }
on_port South face offset half size s h =
    record { left = from_start offset half h.above; right = to_end offset half size.width h.below; top = to_face face size.height s.height.above; bottom = up_to_face face size.height }
on_port West face offset half size s h =
    record { left = at_self face; right = from_face face size.width s.width.above; top = from_start offset half h.above; bottom = to_end offset half size.height h.below }

-- the length of a port along its side doesn't depend on the flow of edges
pub along_given : (g : Option Side) (b : Bool) (size : Size) → size_along (side_else g false) size ≡ size_along (side_else g b) size
along_given (Some side) b size = refl
along_given None true size = refl
along_given None false size = refl

pub port_anchor : (c : Child) (s : Spot) (k : ℕ) (offset : ℤ) → s.port ≡ Some k → IsChildPort c k
    → IsInOutline (rect_at (place_of_port c (side_of c s) k offset) (port_at c k).size) (anchor_at c (side_of c s) (Some k) offset)
port_anchor c s k offset port h =
    on_port (side_of c s) (face_of c (side_of c s) k) offset (port_at c k).half (port_at c k).size h.size
    (subst (λ z. IsWithin (pos 0) z (port_at c k).half) (along_given (given_side c k) (s.enters && not s.leaves) (port_at c k).size ∙ rw port refl) h.half)

within_end : (a w : ℤ) → a ≤ℤ w → a ≤ℤ (pos 0 +ℤ w)
within_end a w k = omega (arith, ints, k)

no_depth : pos 0 ≤ℤ neg_ℤ (pos 0)
no_depth = omega (arith, ints)

no_depth_within : (w : ℤ) → pos 0 ≤ℤ w → neg_ℤ (pos 0) ≤ℤ (pos 0 +ℤ w)
no_depth_within w k = omega (arith, ints, k)

far_side : (w : ℤ) → pos 0 ≤ℤ w → pos 0 ≤ℤ (w +ℤ pos 0)
far_side w k = omega (arith, ints, k)

far_side_within : (w : ℤ) → (w +ℤ pos 0) ≤ℤ (pos 0 +ℤ w)
far_side_within w = omega (arith, ints)

-- an implicit end lies on its side of the box
pub end_anchor : (side : Side) (offset : ℤ) (size : Size) → IsSmall size → IsWithin (pos 0) (size_along side size) offset → IsInOutline (rect_at (record { x = pos 0; y = pos 0 }) size) (on_side side (outer_face side size no_size) offset)
end_anchor North offset size s h = record { left = h.above; right = within_end offset size.width h.below; top = no_depth; bottom = no_depth_within size.height s.height.above }
end_anchor East offset size s h = record { left = far_side size.width s.width.above; right = far_side_within size.width; top = h.above; bottom = within_end offset size.height h.below }
end_anchor South offset size s h = record { left = h.above; right = within_end offset size.width h.below; top = far_side size.height s.height.above; bottom = far_side_within size.height }
end_anchor West offset size s h = record { left = no_depth; right = no_depth_within size.width s.width.above; top = h.above; bottom = within_end offset size.height h.below }
