-- A drawing of a whole document that comes from layouts of its levels.
use Rattle.std.specs.Prelude.{◌≡◌, ℕ, ◌<◌, length, None, IsNone}
use Rattle.elk_doc.specs.declared.drawing.Placed.{Placed}
use Rattle.elk_doc.specs.Document.{Document, node_at}
use Rattle.elk_doc.specs.Drawing.{certificate_of}
use Rattle.elk_doc.specs.Drawn.{Drawn}
use Rattle.elk_doc.specs.Fits.{IsRooted, LeavesKept}
use Rattle.elk_doc.specs.Fitted.{Fitted}
use Rattle.elk_doc.specs.Sound.{IsSound}
use Rattle.level_io.specs.Canvas.{IsDrawingOf}
use Rattle.compound.specs.Planned.{Planned}
use Rattle.drawing_laws.specs.Held.{HasSmallCoordinates}

-- The drawing has all that the document asks for, its root at the origin, leaves of their own sizes, and certificates where
-- levels are; every level comes from a layout, and so do the ports of the root.
pub record IsLaidOutDocument (d : Document) (p : Placed) : Type 0 where
  pub complete : IsDrawingOf d p
  pub rooted : IsRooted p
  pub leaves : LeavesKept d p
  pub bare : (n : ℕ) → n < length d.nodes → IsNone (node_at d n).level → certificate_of p n ≡ None
  pub planned : Planned d p

-- the drawing obeys the document, with no more room than it needs, and no coordinate of it reaches 2^53
pub record IsWellDrawnDocument (d : Document) (p : Placed) : Type 0 where
  pub drawn : Drawn d p
  pub fitted : Fitted d p
  pub small : HasSmallCoordinates p

abbrev pub DocumentsAreDrawn : Type 0
DocumentsAreDrawn = (d : Document) (p : Placed) → IsSound d → IsLaidOutDocument d p → IsWellDrawnDocument d p
