-- The layout of a level: its plan is made phase by phase, and its drawing comes from the plan.
use Rattle.elk_doc.specs.declared.drawing.Certificate.{Certificate}
use Rattle.elk_layers.specs.declared.units.Layered.{Layered}
use Rattle.elk_layers.specs.declared.units.Order.{Order}
use Rattle.elk_layers.specs.declared.units.Lines.{Lines}
use Rattle.elk_layers.specs.Layered.{plain, rows_of}
use Rattle.level_layout.specs.Certificate.{IsCertificateOf}
use Rattle.level_model.specs.Conditions.{plain_level}
use Rattle.level_model.specs.declared.level.LevelIn.{LevelIn}
use Rattle.level_model.specs.Level.{Orders}
use Rattle.level_model.specs.Ready.{IsReady}
use Rattle.layer_units.specs.Layering.{IsLayerCount}
use Rattle.level_draw.specs.declared.drawing.LevelOut.{LevelOut}
use Rattle.level_draw.specs.Drawing.{IsDrawn, plan_from}
use Rattle.level_layout.specs.Chosen.{AreChosenLines, AreChosenRows, straightness_for}
use Rattle.level_layout.specs.Phases.{AreNumberedAs, IsStart}

-- Units and links come from the level and the layers of its certificate, numbered by child and edge, with one layer more than
-- the greatest of these; each row begins with its units in the order of their numbers; the order of the plan reduces
-- the crossings of that start or holds its children, as the level asks, and its lines are placed.
-- The drawing comes from all of these, and keeps the rules.
pub record IsLayout (level : LevelIn) (c : Certificate) (layered : Layered) (start order : Order) (lines : Lines)
    (v : LevelOut) : Type 0 where
  pub certificate : IsCertificateOf (plain_level level) c
  pub numbered : AreNumberedAs (plain_level level) c (plain layered)
  pub layers : IsLayerCount c.layers layered.layers
  pub started : IsStart (plain layered) (rows_of start)
  pub ordered : AreChosenRows (plain_level level) (plain layered) (rows_of start) (rows_of order)
  pub placed : AreChosenLines (plain layered) (rows_of order) level.placing level.fixed (straightness_for level) lines.top.items
  pub orders : Orders
  pub ready : IsReady (plain_level level) (plan_from c layered order lines) orders c.layers
  pub drawn : IsDrawn (plain_level level) (plan_from c layered order lines) c.layers v

-- the layout that an answer has in its plan
abbrev pub IsLaidOut : LevelIn → LevelOut → Type 0
IsLaidOut level v = IsLayout level v.certificate v.plan.layered v.plan.start v.plan.order v.plan.lines v
