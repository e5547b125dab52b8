-- The parts of a drawing that begins at 0, and how far they reach.
use Rattle.std.specs.Prelude.{ℕ, List, ℤ}
use Rattle.level_model.specs.Level.{PlainLevel, PlainPlan, Orders}
use Rattle.level_model.specs.FromPlan.{IsDrawnFrom}
use Rattle.level_model.specs.Ready.{IsReady}
use Rattle.level_draw.specs.declared.drawing.Sketch.{Sketch}
use Rattle.level_draw.specs.Drawing.{IsTight}
use Rattle.level_draw.specs.Parts.{drawn_of}

pub record IsSketch (l : PlainLevel) (p : PlainPlan) (v : Sketch) : Type 0 where
  pub left : ℤ
  pub top : ℤ
  pub drawn : (o : Orders) (layers : List ℕ) → IsReady l p o layers → IsDrawnFrom l p o (drawn_of v.parts v.extent left top)
  pub tight : IsTight l (drawn_of v.parts v.extent left top)
