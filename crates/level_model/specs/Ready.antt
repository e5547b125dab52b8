-- What a drawing is made from.
use Rattle.std.specs.Prelude.{◌≡◌, ℕ, List}
use Rattle.elk_layers.specs.Layered.{IsSound, AreRows}
use Rattle.elk_layers.specs.Lines.{AreApart}
use Rattle.level_model.specs.Level.{PlainLevel, PlainPlan, Orders}
use Rattle.level_model.specs.Units.{AreUnits}
use Rattle.level_model.specs.Conditions.{IsLevel}

-- Units and links are those of the level, the rows hold them, and their tops keep the distances.
pub record IsReady (l : PlainLevel) (p : PlainPlan) (o : Orders) (layers : List ℕ) : Type 0 where
  pub level : IsLevel l
  pub units : AreUnits l p o layers
  pub sound : IsSound p.layered
  pub rows : AreRows p.layered p.rows
  pub apart : AreApart p.layered p.rows p.tops
  pub layers_are : p.layers ≡ p.layered.layers
