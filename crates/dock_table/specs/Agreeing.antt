-- Tables do not depend on which function gives the orders of the level's sides.
use Rattle.level_model.specs.declared.table.Table.{Table}
use Rattle.level_model.specs.Conditions.{IsLevel}
use Rattle.level_model.specs.Level.{Orders, PlainLevel, PlainPlan}
use Rattle.level_model.specs.Table.{IsTable}
use Rattle.level_model.specs.Units.{AreOrders}

-- A table for some orders of the level's sides is one for any orders of them, whatever these are beyond the level's children.
abbrev pub NeedNoOrders : Type 0
NeedNoOrders =
    (l : PlainLevel) (p : PlainPlan) (o q : Orders) (t : Table) → IsLevel l → AreOrders l p o → AreOrders l p q
    → IsTable l p o t → IsTable l p q t
