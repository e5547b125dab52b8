-- Drawings whose coordinates are in range because each level lies within its node.
use Rattle.std.specs.Prelude.{◌≡◌, ℕ, ◌<◌, ◌^◌, ℤ, pos, neg_ℤ, ◌<ℤ◌, length, Some, All}
use Rattle.drawing_types.specs.declared.shape.Point.{Point}
use Rattle.drawing_types.specs.declared.shape.Rect.{Rect}
use Rattle.elk_doc.specs.declared.document.LevelOptions.{LevelOptions}
use Rattle.drawing_types.specs.declared.section.Section.{Section}
use Rattle.elk_doc.specs.declared.drawing.Placed.{Placed}
use Rattle.elk_doc.specs.Document.{Document, node_at}
use Rattle.elk_doc.specs.Drawing.{box_of}
use Rattle.elk_doc.specs.Fits.{Fits, HasCertificates, HasCounts, IsRooted, LeavesKept}
use Rattle.elk_doc.specs.Inside.{Inside}
use Rattle.elk_doc.specs.PortsKept.{KeepsPorts}
use Rattle.elk_doc.specs.Sound.{IsSound}
use Rattle.drawing_types.specs.Ranges.{IsWithin}

-- a rectangle has a width and a height from 0 to 2^51
pub record IsModest (r : Rect) : Type 0 where
  pub width : IsWithin (pos 0) (pos (2 ^ 51)) r.width
  pub height : IsWithin (pos 0) (pos (2 ^ 51)) r.height

-- What holds a drawing in range. Its lists are as long as those of its document, its root stands at the origin, leaves have
-- their own sizes, and certificates stand where levels are. Each box is from 0 to 2^51 wide and high, the content of each level
-- lies inside its node's padding, and the ports of the root, which no level holds, obey the root's constraints.
pub record IsHeld (d : Document) (p : Placed) : Type 0 where
  pub counts : HasCounts d p
  pub root : IsRooted p
  pub leaves : LeavesKept d p
  pub certificates : HasCertificates d p
  pub sizes : (n : ℕ) → n < length d.nodes → IsModest (box_of p n)
  pub inside : (n : ℕ) (o : LevelOptions) → n < length d.nodes → (node_at d n).level ≡ Some o → Inside d p n o
  pub root_ports : KeepsPorts d p 0

-- Such a drawing of a document has the form that the document asks for: every box, every port and every point of a route
-- lies from -2^53 to 2^53.
abbrev pub HeldDrawingsFit : Type 0
HeldDrawingsFit = (d : Document) (p : Placed) → IsSound d → IsHeld d p → Fits d p

-- a number below 2^53 in size, one that a double holds with both its neighbours
pub record IsSmall (z : ℤ) : Type 0 where
  pub above : neg_ℤ (pos (2 ^ 53)) <ℤ z
  pub below : z <ℤ pos (2 ^ 53)

pub record IsSmallPoint (q : Point) : Type 0 where
  pub x : IsSmall q.x
  pub y : IsSmall q.y

pub record IsSmallBox (r : Rect) : Type 0 where
  pub place : IsSmallPoint (record { x = r.x; y = r.y })
  pub width : IsSmall r.width
  pub height : IsSmall r.height

pub record IsSmallSection (s : Section) : Type 0 where
  pub start : IsSmallPoint s.start
  pub bends : All IsSmallPoint s.bends
  pub end : IsSmallPoint s.end

-- all places and sizes of boxes, all places of ports and all points of routes are below 2^53 in size
pub record HasSmallCoordinates (p : Placed) : Type 0 where
  pub boxes : All IsSmallBox p.boxes
  pub ports : All IsSmallPoint p.ports
  pub sections : All IsSmallSection p.sections

-- No coordinate of such a drawing reaches 2^53.
abbrev pub HeldDrawingsAreSmall : Type 0
HeldDrawingsAreSmall = (d : Document) (p : Placed) → IsSound d → IsHeld d p → HasSmallCoordinates p
