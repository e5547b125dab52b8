-- A level of boxes that comes from a layout keeps every rule.
use Rattle.std.specs.Prelude.{◌≡◌, ℕ, ◌<◌, length, IsTrue, Some}
use Rattle.elk_doc.specs.declared.document.LevelOptions.{LevelOptions}
use Rattle.elk_doc.specs.declared.drawing.Placed.{Placed}
use Rattle.elk_doc.specs.Document.{Document, node_at}
use Rattle.elk_doc.specs.Drawing.{box_of}
use Rattle.elk_doc.specs.Fits.{FitsCertificate, IsSolid, LeavesKept}
use Rattle.elk_doc.specs.Level.{IsChild}
use Rattle.elk_doc.specs.PortsKept.{KeepsPorts}
use Rattle.elk_doc.specs.Sound.{IsSound}
use Rattle.rotated_levels.specs.Levels.{IsWellDrawn}
use Rattle.compound.specs.Boxed.{IsBoxedPlan, boxes_certificate}

-- The level of n, which has these options, is one of boxes that comes from a layout, in a drawing whose leaves keep their sizes.
pub record IsDrawnAsBoxes (d : Document) (p : Placed) (n : ℕ) (o : LevelOptions) : Type 0 where
  pub sound : IsSound d
  pub there : n < length d.nodes
  pub options : (node_at d n).level ≡ Some o
  pub boxes : IsTrue o.boxes
  pub leaves : LeavesKept d p
  pub planned : IsBoxedPlan d p n o

-- The ports of its children are kept, and its certificate has the form that is asked for. Where the children have no negative
-- sizes and the ports of its node are kept, the level is drawn, with no more room than it needs.
pub record IsBoxDrawing (d : Document) (p : Placed) (n : ℕ) (o : LevelOptions) : Type 0 where
  pub ports : (m : ℕ) → IsChild d n m → KeepsPorts d p m
  pub certificate : FitsCertificate d n o (boxes_certificate d n)
  pub drawn : ((c : ℕ) → IsChild d n c → IsSolid (box_of p c)) → KeepsPorts d p n → IsWellDrawn d p n o (boxes_certificate d n)

abbrev pub BoxesAreDrawn : Type 0
BoxesAreDrawn = (d : Document) (p : Placed) (n : ℕ) (o : LevelOptions) → IsDrawnAsBoxes d p n o → IsBoxDrawing d p n o
