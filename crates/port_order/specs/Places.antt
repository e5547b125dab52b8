-- Offsets of docks, places of ports, and anchors, relative to the child's box in the working frame.
use Rattle.std.specs.Prelude.{◌≡◌, ℕ, ◌+◌, ◌-◌, ◌*◌, ◌/◌, ◌<◌, ◌==◌, cond, Bool, true, false, ◌&&◌, not, List, [], ◌∷◌, ℤ, pos, negsuc}
use Rattle.std.specs.Prelude.{neg_ℤ, ◌+ℤ◌, ◌-ℤ◌, ◌<ℤ◌, ◌≤ℤ◌, Option, None, Some, length, slice_index, slice_index_or}
use Rattle.drawing_types.specs.declared.shape.Point.{Point}
use Rattle.drawing_types.specs.declared.shape.Size.{Size}
use Rattle.drawing_types.specs.declared.shape.Side.{Side}
use Rattle.drawing_types.specs.declared.shape.Side.TheVariants.{North, East, South, West}
use Rattle.drawing_types.specs.Shapes.{no_size}
use Rattle.elk_doc.specs.Sound.{along}
use Rattle.elk_doc.specs.PortsKept.{size_along}
use Rattle.port_order.specs.declared.children.Child.{Child}
use Rattle.port_order.specs.declared.spots.Spot.{Spot}
use Rattle.port_order.specs.Child.{port_at, is_pinned, is_pinned_spot}
use Rattle.port_order.specs.Sides.{side_of, is_mirrored}

-- the offset of the i-th of k spread spots on a side of this length: floor(len * (i + 1) / (k + 1))
abbrev pub spread_at : ℤ → ℕ → ℕ → ℤ
spread_at (pos len) k i = pos ((len * (i + 1)) / (k + 1))
spread_at (negsuc len) k i = pos 0

-- the offsets of k spread spots; where the side is long enough they rise strictly
pub record AreSpread (len : ℤ) (k : ℕ) (offsets : List ℤ) : Type 0 where
  pub count : length offsets ≡ k
  pub each : (i : ℕ) → i < k → slice_index_or offsets i (pos 0) ≡ spread_at len k i
  pub rising : pos (k + 1) ≤ℤ len → (i j : ℕ) → i < j → j < k → slice_index_or offsets i (pos 0) <ℤ slice_index_or offsets j (pos 0)

-- a list holds a number at one place
pub record HoldsOnce (order : List ℕ) (n : ℕ) : Type 0 where
  pub place : ℕ
  pub inside : place < length order
  pub there : slice_index order place ≡ n
  pub alone : (j : ℕ) → j < length order → slice_index order j ≡ n → j ≡ place

-- the place of a number in a list
abbrev pub place_in : List ℕ → ℕ → ℕ
place_in [] n = 0
place_in (m ∷ ms) n = cond (m == n) 0 (1 + place_in ms n)

-- the working offset of the j-th of k spread spots from the top or the left; where the document counts from the right,
-- it is the side's length less the document's offset
abbrev pub rotated_spread : Bool → ℤ → ℕ → ℕ → ℤ
rotated_spread true len k j = len -ℤ spread_at len k (k - (j + 1))
rotated_spread false len k j = spread_at len k j

abbrev pub spread_offset : Child → Side → List ℕ → ℕ → ℤ
spread_offset c side order number =
    rotated_spread (is_mirrored c.direction side) (size_along side c.size) (length order) (place_in order number)

-- the offset of a spot's anchor along its side: a pinned port's own, else the spread one
abbrev pub offset_of : Child → Side → Bool → Option ℕ → List ℕ → ℕ → ℤ
offset_of c side true (Some k) order number = along side (port_at c k).place +ℤ (port_at c k).half
offset_of c side true None order number = spread_offset c side order number
offset_of c side false port order number = spread_offset c side order number

abbrev pub dock_of : Child → Spot → List ℕ → ℤ
dock_of c s order = offset_of c (side_of c s) (is_pinned_spot c s) s.port order s.number

-- how far the outer face of a port that is flush stands from the box's corner, across its side
abbrev pub outer_face : Side → Size → Size → ℤ
outer_face North box size = neg_ℤ size.height
outer_face East box size = box.width +ℤ size.width
outer_face South box size = box.height +ℤ size.height
outer_face West box size = neg_ℤ size.width

-- the outer face of a port at its given place
abbrev pub given_face : Side → Point → Size → ℤ
given_face North place size = place.y
given_face East place size = place.x +ℤ size.width
given_face South place size = place.y +ℤ size.height
given_face West place size = place.x

-- where the outer face stands: a pinned port of a leaf keeps its place, every other port is flush
abbrev pub face_of : Child → Side → ℕ → ℤ
face_of c side k =
    cond (is_pinned c k && not c.compound) (given_face side (port_at c k).place (port_at c k).size)
    (outer_face side c.size (port_at c k).size)

-- the point with this coordinate across a side and this offset along it
abbrev pub on_side : Side → ℤ → ℤ → Point
on_side North face offset = record { x = offset; y = face }
on_side East face offset = record { x = face; y = offset }
on_side South face offset = record { x = offset; y = face }
on_side West face offset = record { x = face; y = offset }

-- the anchor of a spot with this offset; an implicit end lies on its side's line
abbrev pub anchor_at : Child → Side → Option ℕ → ℤ → Point
anchor_at c side (Some k) offset = on_side side (face_of c side k) offset
anchor_at c side None offset = on_side side (outer_face side c.size no_size) offset

-- the place of a port whose anchor has this offset: the corner of its box, from its outer face and its start along the side
abbrev pub corner_of : Side → ℤ → ℤ → Size → Point
corner_of North face start size = record { x = start; y = face }
corner_of East face start size = record { x = face -ℤ size.width; y = start }
corner_of South face start size = record { x = start; y = face -ℤ size.height }
corner_of West face start size = record { x = face; y = start }

abbrev pub place_of_port : Child → Side → ℕ → ℤ → Point
place_of_port c side k offset = corner_of side (face_of c side k) (offset -ℤ (port_at c k).half) (port_at c k).size
