-- Outlines and ports by the docks of a child's spots.
use Rattle.std.proofs.Common.{◌≡◌, ℕ, suc, ℤ, ◌+◌, ◌-◌, ◌<◌, ◌^◌, pos, List, length, get_or, sym, ◌∙◌, ap, arith, w64, to_z, of_z, neg_ℤ}
use Rattle.std.specs.List.{All, range_with_len}
use Rattle.std.proofs.lemmas.Int.{ints, to_z-of_z}
use Rattle.std.proofs.lemmas.List.Elements.{All-get_or}
use Rattle.drawing_types.specs.declared.shape.Point.{Point}
use Rattle.drawing_types.specs.declared.shape.Rect.{Rect}
use Rattle.drawing_types.specs.declared.shape.Side.{Side}
use Rattle.drawing_types.specs.declared.shape.Side.TheVariants.{North, East, South, West}
use Rattle.drawing_types.specs.declared.shape.Dock.{Dock}
use Rattle.drawing_types.specs.Shapes.{hull, rect_at}
use Rattle.drawing_types.specs.Ranges.{IsPlaceWithin, IsWithin}
use Rattle.port_order.specs.declared.children.Child.{Child}
use Rattle.port_order.specs.Child.{port_at}
use Rattle.port_order.specs.Places.{on_side, place_of_port}
use Rattle.dock_table.specs.Narrow.{IsOffset}
use Rattle.dock_table.specs.Outlines.{dock_in, outline_by}
use Rattle.dock_table.proofs.PartLemmas.{offset_fits}

-- the outline with the port before
pub outline_more : (c : Child) (docks : List Dock) (k j n : ℕ) (d : Dock) (r q s : Rect) → j ≡ k + 1 → k < n → d ≡ dock_in docks k → r ≡ outline_by c docks (range_with_len j (n - j)) → q ≡ rect_at (place_of_port c d.side k d.offset) (port_at c k).size → s ≡ hull r q
    → s ≡ outline_by c docks (range_with_len k (n - k))
outline_more c docks k j n d r q s next h is outline rect joined =
    let count : n - k ≡ suc (n - (k + 1)) = omega (arith, h) in
    joined
    ∙ ap (λ x. hull x q) (outline ∙ ap (λ m. outline_by c docks (range_with_len m (n - m))) next)
    ∙ ap (hull (outline_by c docks (range_with_len (k + 1) (n - (k + 1))))) (rect ∙ ap (λ (x : Dock). rect_at (place_of_port c x.side k x.offset) (port_at c k).size) is)
    ∙ sym (ap (λ m. outline_by c docks (range_with_len k m)) count)

pub dock_offset : (docks : List Dock) (i : ℕ) (d : Dock) → i < length docks → All (λ (x : Dock). IsOffset x.offset) docks → IsOffset (get_or docks i d).offset
dock_offset docks i d h all = All-get_or (λ (x : Dock). IsOffset x.offset) docks i d h all

-- an anchor lies near
pub anchor_near : (side : Side) (face offset : ℤ) → IsOffset face → IsOffset offset → IsPlaceWithin (2 ^ 48) (on_side side face offset)
anchor_near side face offset f o = by side (wide face f) (wide offset o)
  where
    wide : (z : ℤ) → IsOffset z → IsWithin (neg_ℤ (pos (2 ^ 48))) (pos (2 ^ 48)) z
    wide z h = let a = h.above in let b = h.below in record { above = omega (arith, ints, a); below = omega (arith, ints, b) }

    by : (side : Side) → IsWithin (neg_ℤ (pos (2 ^ 48))) (pos (2 ^ 48)) face → IsWithin (neg_ℤ (pos (2 ^ 48))) (pos (2 ^ 48)) offset → IsPlaceWithin (2 ^ 48) (on_side side face offset)
    by North f o = record { x = o; y = f }
    by East f o = record { x = f; y = o }
    by South f o = record { x = o; y = f }
    by West f o = record { x = f; y = o }

-- a port's rectangle, and its place, by the dock that was read
pub rect_read : (c : Child) (d : Dock) (k : ℕ) (q : Rect) → IsOffset d.offset → q ≡ rect_at (place_of_port c d.side k (to_z w64 (of_z w64 d.offset))) (port_at c k).size → q ≡ rect_at (place_of_port c d.side k d.offset) (port_at c k).size
rect_read c d k q near e = e ∙ ap (λ z. rect_at (place_of_port c d.side k z) (port_at c k).size) (to_z-of_z w64 d.offset (offset_fits d.offset near))

pub place_read : (c : Child) (d : Dock) (k : ℕ) (q : Point) → IsOffset d.offset → q ≡ place_of_port c d.side k (to_z w64 (of_z w64 d.offset)) → q ≡ place_of_port c d.side k d.offset
place_read c d k q near e = e ∙ ap (place_of_port c d.side k) (to_z-of_z w64 d.offset (offset_fits d.offset near))
