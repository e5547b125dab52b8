-- The ports of a document's nodes are kept where those of the level's drawing are.
use Rattle.std.specs.Prelude.{ℕ, ◌<◌, length}
use Rattle.drawing_types.specs.declared.shape.Point.{Point}
use Rattle.elk_doc.specs.declared.document.LevelOptions.{LevelOptions}
use Rattle.elk_doc.specs.declared.drawing.Placed.{Placed}
use Rattle.elk_doc.specs.Document.{Document}
use Rattle.elk_doc.specs.Level.{IsChild}
use Rattle.elk_doc.specs.PortsKept.{KeepsPorts}
use Rattle.level_model.specs.Level.{PlainLevel, PlainPlan, Orders}
use Rattle.level_model.specs.FromPlan.{LevelDrawing}
use Rattle.level_model.specs.PortsKept.{KeepsPorts as ChildKeepsPorts}
use Rattle.working_frame.specs.Rotated.{level_of}
use Rattle.rotated_levels.specs.DockLaws.{IsFromLevel, IsAnchored}

-- in the level's drawing the ports of every child are kept
abbrev pub AllKeepPorts : PlainLevel → PlainPlan → Orders → LevelDrawing → Type 0
AllKeepPorts l plan orders v = (i : ℕ) → i < length l.children → ChildKeepsPorts l plan orders v i

abbrev pub PortsRotateBack : Type 0
PortsRotateBack =
    (d : Document) (p : Placed) (n : ℕ) (o : LevelOptions) (plan : PlainPlan) (orders : Orders) (v : LevelDrawing) (by : Point)
    → IsFromLevel d p n o plan v by → IsAnchored (level_of d p n o) plan orders v → AllKeepPorts (level_of d p n o) plan orders v
    → (m : ℕ) → IsChild d n m → KeepsPorts d p m
