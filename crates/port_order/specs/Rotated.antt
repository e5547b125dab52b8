-- What the document's frame states of sides, orders and offsets, in the frame of a direction.
use Rattle.std.specs.Prelude.{◌≡◌, ◌↔◌, ℕ, ◌+◌, ◌-◌, ◌<◌, Bool, true, false, ◌+ℤ◌, ◌-ℤ◌, ◌<ℤ◌}
use Rattle.std.specs.Option.{option_map}
use Rattle.drawing_types.specs.declared.shape.Point.{Point}
use Rattle.drawing_types.specs.declared.shape.Size.{Size}
use Rattle.drawing_types.specs.declared.shape.Side.{Side}
use Rattle.elk_doc.specs.declared.document.Direction.{Direction}
use Rattle.elk_doc.specs.declared.document.Direction.TheVariants.{Right, Left, Down, Up}
use Rattle.elk_doc.specs.Sides.{side_by_place}
use Rattle.elk_doc.specs.Sound.{along}
use Rattle.elk_doc.specs.PortsKept.{size_along, clockwise, counted}
use Rattle.drawing_laws.specs.Rotating.{rotated_side}
use Rattle.port_order.specs.Sides.{is_mirrored, is_forward, side_of_place}
use Rattle.port_order.specs.Places.{spread_at, rotated_spread}

-- a size in the frame of a direction
abbrev pub framed_size : Direction → Size → Size
framed_size Right s = s
framed_size Left s = s
framed_size Down s = record { width = s.height; height = s.width }
framed_size Up s = record { width = s.height; height = s.width }

-- A point relative to a box, in the frame of a direction, relative to the box there: under Left x is mirrored within the
-- box, under Down x and y are exchanged, under Up they are exchanged and then x is mirrored.
abbrev pub framed_point : Direction → Size → Point → Point
framed_point Right box p = p
framed_point Left box p = record { x = box.width -ℤ p.x; y = p.y }
framed_point Down box p = record { x = p.y; y = p.x }
framed_point Up box p = record { x = box.height -ℤ p.y; y = p.x }

-- the place of a port of this size there: where its upper left corner stands
abbrev pub framed_place : Direction → Size → Point → Size → Point
framed_place Right box p size = p
framed_place Left box p size = record { x = box.width -ℤ (p.x +ℤ size.width); y = p.y }
framed_place Down box p size = record { x = p.y; y = p.x }
framed_place Up box p size = record { x = box.height -ℤ (p.y +ℤ size.height); y = p.x }

-- from the left or the right
abbrev pub rotated_place : Bool → ℕ → ℕ → ℕ
rotated_place true k i = k - (i + 1)
rotated_place false k i = i

-- The side that a port's place tells is the document's, rotated; clockwise in the document is counted by `is_forward`; and
-- the document's spread offsets are the working ones, counted and rounded from the other end where a side is mirrored.
pub record DirectionsRotate : Type 0 where
  pub side : (d : Direction) (box : Size) (place : Point) (size : Size)
      → side_of_place d (framed_size d box) (framed_place d box place size) (framed_size d size)
      ≡ option_map (rotated_side d) (side_by_place box place size)
  pub clockwise : (d : Direction) (side : Side) (box : Size) (p q : Point)
      → (clockwise side (along side p) <ℤ clockwise side (along side q))
      ↔ (counted (is_forward d (rotated_side d side)) (along (rotated_side d side) (framed_point d box p))
      <ℤ counted (is_forward d (rotated_side d side)) (along (rotated_side d side) (framed_point d box q)))
  pub spread : (d : Direction) (side : Side) (box : Size) (k i : ℕ) (p : Point) → i < k → along side p ≡ spread_at (size_along side box) k i
      → along (rotated_side d side) (framed_point d box p)
      ≡ rotated_spread (is_mirrored d (rotated_side d side)) (size_along (rotated_side d side) (framed_size d box)) k
      (rotated_place (is_mirrored d (rotated_side d side)) k i)
