-- The routes of a document's level obey their rules where those of the level's drawing do.
use Rattle.std.specs.Prelude.{◌≢◌, ℕ}
use Rattle.drawing_types.specs.declared.shape.Point.{Point}
use Rattle.elk_doc.specs.declared.document.LevelOptions.{LevelOptions}
use Rattle.elk_doc.specs.declared.drawing.Placed.{Placed}
use Rattle.elk_doc.specs.Document.{Document}
use Rattle.elk_doc.specs.Level.{IsChild, IsEdge}
use Rattle.elk_doc.specs.Route.{Route}
use Rattle.elk_doc.specs.Clear.{Clear}
use Rattle.elk_doc.specs.Sharing.{Sharing}
use Rattle.level_model.specs.Level.{PlainPlan, Orders}
use Rattle.level_model.specs.FromPlan.{LevelDrawing}
use Rattle.level_model.specs.PortsKept.{ArePortsPlaced}
use Rattle.plan_laws.specs.Routes.{RoutesKept}
use Rattle.working_frame.specs.Rotated.{level_of}
use Rattle.rotated_levels.specs.DockLaws.{IsFromLevel}

-- the routes of the level of n obey their rules
pub record RoutesDrawn (d : Document) (p : Placed) (n : ℕ) : Type 0 where
  pub routes : (e : ℕ) → IsEdge d n e → Route d p e
  pub clear : (e a : ℕ) → IsEdge d n e → IsChild d n a → Clear d p e a
  pub sharing : (e f : ℕ) → IsEdge d n e → IsEdge d n f → e ≢ f → Sharing d p e f

abbrev pub RoutesRotateBack : Type 0
RoutesRotateBack =
    (d : Document) (p : Placed) (n : ℕ) (o : LevelOptions) (plan : PlainPlan) (orders : Orders) (v : LevelDrawing) (by : Point)
    → IsFromLevel d p n o plan v by → ArePortsPlaced (level_of d p n o) plan orders v
    → RoutesKept (level_of d p n o) plan orders v → RoutesDrawn d p n
