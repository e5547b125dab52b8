-- Where a drawing puts the ports of a leaf: within plus or minus 2^20.
use Rattle.std.proofs.Common.{◌≡◌, ℕ, ◌<◌, ◌^◌, length, Bool, true, false, ◌&&◌, inl, inr, refl, sym, subst, arith}
use Rattle.std.specs.Prelude.{pos, IsFalse, IsNone, is_some}
use Rattle.std.proofs.lemmas.Int.{ints}
use Rattle.std.proofs.lemmas.Bool.{cases_Bool}
use Rattle.drawing_types.specs.declared.shape.Point.{Point}
use Rattle.drawing_types.specs.declared.shape.Size.{Size}
use Rattle.drawing_types.specs.declared.shape.Rect.{Rect}
use Rattle.drawing_types.specs.declared.shape.Side.{Side}
use Rattle.drawing_types.specs.declared.shape.Side.TheVariants.{North, East, South, West}
use Rattle.elk_doc.specs.declared.drawing.Placed.{Placed}
use Rattle.elk_doc.specs.Document.{Document, node_at, port_at, node_of_port}
use Rattle.elk_doc.specs.Drawing.{box_of, port_place}
use Rattle.drawing_types.specs.Shapes.{rect_at, moved_by}
use Rattle.elk_doc.specs.Sides.{is_leaf, side_of_port}
use Rattle.elk_doc.specs.Places.{middle_of, offset_on}
use Rattle.elk_doc.specs.Sound.{IsSound, IsLength, IsSoundSize}
use Rattle.drawing_types.specs.Ranges.{IsWithin, IsPlaceWithin}
use Rattle.elk_doc.specs.PortsKept.{across, side_length, flush, is_pinned}
use Rattle.elk_doc.specs.Drawn.{Drawn}
use Rattle.elk_doc.proofs.ShapeLaws.{half_of-bounds}
use Rattle.elk_write.proofs.Redrawn.{port_kept, pinned_place}
use Rattle.elk_write.proofs.Known.{not_true}

-- a port that stands flush outside a box of such a size, with its anchor on the side
flush_near : (s : Side) (box : Rect) (place : Point) (size : Size) → IsLength box.width → IsLength box.height → IsSoundSize size
    → across s place ≡ flush s box size → IsWithin (pos 0) (side_length s box) (offset_on s box (middle_of s (rect_at (moved_by box place) size))) → IsPlaceWithin (2 ^ 20) place
flush_near North box place size w h z flat on =
    let half = half_of-bounds size.width z.width.above in
    record { x = record { above = omega (arith, ints); below = omega (arith, ints) }; y = record { above = omega (arith, ints); below = omega (arith, ints) } }
flush_near East box place size w h z flat on =
    let half = half_of-bounds size.height z.height.above in
    record { x = record { above = omega (arith, ints); below = omega (arith, ints) }; y = record { above = omega (arith, ints); below = omega (arith, ints) } }
flush_near South box place size w h z flat on =
    let half = half_of-bounds size.width z.width.above in
    record { x = record { above = omega (arith, ints); below = omega (arith, ints) }; y = record { above = omega (arith, ints); below = omega (arith, ints) } }
flush_near West box place size w h z flat on =
    let half = half_of-bounds size.height z.height.above in
    record { x = record { above = omega (arith, ints); below = omega (arith, ints) }; y = record { above = omega (arith, ints); below = omega (arith, ints) } }

not_and : (a b : Bool) → a ≡ false → IsFalse (a && b)
not_and a b h = rw h refl

pub leaf_near : (d : Document) (p : Placed) (k : ℕ) → IsSound d → Drawn d p → k < length d.ports → is_leaf d (node_of_port d k) ≡ true → IsPlaceWithin (2 ^ 20) (port_place p k)
leaf_near d p k sound drawn lt leaf =
    let m = node_of_port d k in
    let in_nodes = sound.ports.nodes k lt in
    let kept = port_kept d p sound drawn k lt in
    let port = sound.ports.each k lt in
    let none : IsNone (node_at d m).level = not_true (is_some (node_at d m).level) leaf in
    let size = (sound.nodes m in_nodes).leaf none in
    let own = drawn.fits.leaves m in_nodes none in
    elim (cases_Bool (is_pinned d k)) [
      | inl pinned ↦ subst (IsPlaceWithin (2 ^ 20)) (sym (pinned_place d p k kept pinned leaf)) (port.near none)
      | inr free ↦ flush_near (side_of_port d p k) (box_of p m) (port_place p k) (port_at d k).size
          (subst IsLength (sym own.width) size.width) (subst IsLength (sym own.height) size.height) port.size
          (kept.flush_outside (not_and (is_pinned d k) (is_leaf d m) free)) (kept.on_side free)
    ]
