-- A level of a document's drawing that comes from a drawing in the frame of its direction keeps every rule.
use Rattle.std.specs.Prelude.{◌≡◌, ℕ, IsFalse}
use Rattle.drawing_types.specs.declared.shape.Point.{Point}
use Rattle.elk_doc.specs.declared.document.LevelOptions.{LevelOptions}
use Rattle.elk_doc.specs.declared.drawing.Certificate.{Certificate}
use Rattle.elk_doc.specs.declared.drawing.Placed.{Placed}
use Rattle.elk_doc.specs.Document.{Document}
use Rattle.elk_doc.specs.Drawn.{LevelDrawn}
use Rattle.elk_doc.specs.Fitted.{LevelFitted}
use Rattle.elk_doc.specs.PortsKept.{KeepsPorts}
use Rattle.level_model.specs.Level.{Orders, PlainPlan}
use Rattle.level_model.specs.FromPlan.{LevelDrawing}
use Rattle.level_model.specs.Ready.{IsReady}
use Rattle.level_draw.specs.Drawing.{IsDrawing}
use Rattle.working_frame.specs.Rotated.{level_of}
use Rattle.rotated_levels.specs.Framed.{IsFramed}
use Rattle.rotated_levels.specs.Certified.{IsCertified}
use Rattle.rotated_levels.specs.DockLaws.{IsFromLevel}

-- The level of n comes from the drawing v of that level, which comes from a plan: v is rotated back and moved by `by`, the
-- node's box is framed round it, and its certificate is written with the document's numbers. The level is neither split nor one
-- of boxes.
pub record IsFromDrawing (d : Document) (p : Placed) (n : ℕ) (o : LevelOptions) (plan : PlainPlan) (orders : Orders)
    (v : LevelDrawing) (by : Point) (made written : Certificate) : Type 0 where
  pub from_level : IsFromLevel d p n o plan v by
  pub ready : IsReady (level_of d p n o) plan orders written.layers
  pub drawing : IsDrawing (level_of d p n o) plan written.layers v
  pub framed : IsFramed d p n o v by
  pub certified : IsCertified d p n o made written
  pub whole : IsFalse o.split
  pub layered : IsFalse o.boxes

-- the level is drawn, with no more room than it needs
pub record IsWellDrawn (d : Document) (p : Placed) (n : ℕ) (o : LevelOptions) (c : Certificate) : Type 0 where
  pub drawn : LevelDrawn d p n o c
  pub fitted : LevelFitted d p n o c

-- Such a level keeps every rule; the ports of the root are kept where they are by themselves.
abbrev pub LevelsAreDrawn : Type 0
LevelsAreDrawn =
    (d : Document) (p : Placed) (n : ℕ) (o : LevelOptions) (plan : PlainPlan) (orders : Orders) (v : LevelDrawing) (by : Point)
    (made written : Certificate)
    → IsFromDrawing d p n o plan orders v by made written → (n ≡ 0 → KeepsPorts d p 0) → IsWellDrawn d p n o written
