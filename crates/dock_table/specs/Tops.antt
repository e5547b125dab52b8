-- Orders and tables do not depend on where units stand.
use Rattle.std.specs.Prelude.{List, ℤ}
use Rattle.level_model.specs.declared.table.Table.{Table}
use Rattle.level_model.specs.Level.{Orders, PlainLevel, PlainPlan}
use Rattle.level_model.specs.Table.{IsTable}
use Rattle.level_model.specs.Units.{AreOrders}

-- a plan with other tops
abbrev pub with_tops : PlainPlan → List ℤ → PlainPlan
with_tops p tops = record { layers = p.layers; layered = p.layered; rows = p.rows; tops = tops; reversed = p.reversed }

-- orders and tables for one list of tops are those for any
pub record ReadNoTops : Type 0 where
  pub orders : (l : PlainLevel) (p : PlainPlan) (o : Orders) (tops : List ℤ) → AreOrders l p o → AreOrders l (with_tops p tops) o
  pub table : (l : PlainLevel) (p : PlainPlan) (o : Orders) (tops : List ℤ) (t : Table) → IsTable l p o t → IsTable l (with_tops p tops) o t
