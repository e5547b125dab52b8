-- Outlines that stand in rows in the document, rotated into the frame.
use Rattle.std.specs.Prelude.{◌≡◌, ℕ, ◌<◌, ◌^◌, List, length, pos}
use Rattle.drawing_types.specs.declared.shape.Point.{Point}
use Rattle.drawing_types.specs.declared.shape.Rect.{Rect}
use Rattle.drawing_types.specs.declared.shape.Size.{Size}
use Rattle.elk_doc.specs.declared.document.Direction.{Direction}
use Rattle.drawing_types.specs.Ranges.{IsWithin}
use Rattle.box_pack.specs.declared.packing.Rows.{Rows}
use Rattle.box_pack.specs.Boxes.{point_at}
use Rattle.dock_table.specs.Narrow.{IsNearRect}
use Rattle.level_model.specs.FromPlan.{point_or}
use Rattle.working_frame.specs.Ranges.{IsFarPoint}
use Rattle.working_frame.specs.Drawing.{plus}
use Rattle.working_frame.specs.Rotated.{rotated_place}
use Rattle.level_split.specs.Outlines.{outline_size, rect_in}

-- from 0 to 2^59 each way
pub record IsBroad (s : Size) : Type 0 where
  pub width : IsWithin (pos 0) (pos (2 ^ 59)) s.width
  pub height : IsWithin (pos 0) (pos (2 ^ 59)) s.height

pub record IsRoomyPlace (p : Point) : Type 0 where
  pub x : IsWithin (pos 0) (pos (2 ^ 59)) p.x
  pub y : IsWithin (pos 0) (pos (2 ^ 59)) p.y

-- from 0 to 2^49 each way
pub record IsNearSize (s : Size) : Type 0 where
  pub width : IsWithin (pos 0) (pos (2 ^ 49)) s.width
  pub height : IsWithin (pos 0) (pos (2 ^ 49)) s.height

-- rows of as many places as there are outlines, all in range
pub record AreRoomy (rows : Rows) (outlines : List Rect) : Type 0 where
  pub as_many : length rows.at ≡ length outlines
  pub extent : IsBroad rows.extent
  pub places : (i : ℕ) → i < length outlines → IsRoomyPlace (point_at rows.at i)
  pub near : (i : ℕ) → i < length outlines → IsNearRect (rect_in outlines i)

-- the corner of a rectangle
abbrev pub corner : Rect → Point
corner r = record { x = r.x; y = r.y }

-- The outline r, given from the corner of its box, stands in the frame where the turn of content of this extent takes it from
-- its place in the document.
abbrev pub StandsRotated : Direction → Size → Point → Rect → Point → Type 0
StandsRotated way extent place r box = plus box (corner r) ≡ rotated_place way extent (outline_size way r) place

-- so does a box that is not far away
pub record IsBoxAt (way : Direction) (extent : Size) (place : Point) (r : Rect) (box : Point) : Type 0 where
  pub stands : StandsRotated way extent place r box
  pub far : IsFarPoint box

-- the boxes of the first n outlines
pub record StandInRows (way : Direction) (rows : Rows) (outlines : List Rect) (n : ℕ) (boxes : List Point) : Type 0 where
  pub as_many : length boxes ≡ n
  pub each : (i : ℕ) → i < n → IsBoxAt way rows.extent (point_at rows.at i) (rect_in outlines i) (point_or boxes i)
