-- Boxes in rows keep their distance and take little room.
use Rattle.std.specs.Prelude.{◌≡◌, ℕ, zero, suc, ◌<◌, List, length, ℤ, pos, ◌+ℤ◌, ◌≤ℤ◌}
use Rattle.drawing_types.specs.declared.shape.Point.{Point}
use Rattle.drawing_types.specs.declared.shape.Size.{Size}
use Rattle.drawing_types.specs.declared.shape.Rect.{Rect}
use Rattle.drawing_types.specs.Shapes.{origin}
use Rattle.drawing_types.specs.Shapes.{rect_at}
use Rattle.drawing_types.specs.Clearance.{StandsClear}
use Rattle.box_pack.specs.declared.packing.Rows.{Rows}
use Rattle.box_pack.specs.Boxes.{point_at, size_at}
use Rattle.box_pack.specs.Packed.{AreRows}

-- box i at its place
abbrev pub box_at : List Size → List Point → ℕ → Rect
box_at sizes at i = rect_at (point_at at i) (size_at sizes i)

-- no size is negative
pub record AreSolid (sizes : List Size) : Type 0 where
  pub width : (i : ℕ) → i < length sizes → pos 0 ≤ℤ (size_at sizes i).width
  pub height : (i : ℕ) → i < length sizes → pos 0 ≤ℤ (size_at sizes i).height

-- the first n widths, or heights, each with a gap
unfoldable pub gapped : ℤ → (ℕ → ℤ) → ℕ → ℤ
gapped gap value zero = pos 0
gapped gap value (suc i) = gapped gap value i +ℤ (value i +ℤ gap)

abbrev pub width_at : List Size → ℕ → ℤ
width_at sizes i = (size_at sizes i).width

abbrev pub height_at : List Size → ℕ → ℤ
height_at sizes i = (size_at sizes i).height

-- Of two boxes the earlier one stands left of the other or above it, with the gap between them; the first box stands at the
-- origin and none before it; and the extent is no wider and no higher than all boxes with a gap each.
pub record AreSpaced (sizes : List Size) (gap : ℤ) (rows : Rows) : Type 0 where
  pub as_many : length rows.at ≡ length sizes
  pub first : 0 < length sizes → point_at rows.at 0 ≡ origin
  pub right : (i : ℕ) → i < length sizes → pos 0 ≤ℤ (point_at rows.at i).x
  pub down : (i : ℕ) → i < length sizes → pos 0 ≤ℤ (point_at rows.at i).y
  pub apart : (i j : ℕ) → j < i → i < length sizes → StandsClear gap (box_at sizes rows.at j) (box_at sizes rows.at i)
  pub width : rows.extent.width ≤ℤ gapped gap (width_at sizes) (length sizes)
  pub height : rows.extent.height ≤ℤ gapped gap (height_at sizes) (length sizes)

abbrev pub RowsAreSpaced : Type 0
RowsAreSpaced =
    (sizes : List Size) (gap limit : ℤ) (rows : Rows) → AreSolid sizes → pos 0 ≤ℤ gap → AreRows sizes gap limit rows
    → AreSpaced sizes gap rows
