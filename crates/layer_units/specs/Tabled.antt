-- The table of a level under a plan.
use Rattle.level_model.specs.declared.table.Table.{Table}
use Rattle.level_model.specs.Level.{Orders, PlainLevel, PlainPlan}
use Rattle.level_model.specs.Table.{IsTable}
use Rattle.level_model.specs.Units.{AreOrders}
use Rattle.dock_table.specs.Bounds.{AreNumbersIn}

-- it holds the docks, anchors and lanes that the level has under the orders of its sides, in numbers that a machine can add
pub record IsTableOf (l : PlainLevel) (p : PlainPlan) (t : Table) : Type 0 where
  pub orders : Orders
  pub are_orders : AreOrders l p orders
  pub table : IsTable l p orders t
  pub numbers : AreNumbersIn t
