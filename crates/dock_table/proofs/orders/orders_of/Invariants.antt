use Rattle.std.proofs.Common.{map}
use Rattle.level_model.specs.Conditions.{plain_level}
use Rattle.dock_table.specs.Rows.{row_lists}
use Rattle.dock_table.specs.Sides.{AreOrdersTo, four_of}
use Rattle.dock_table.proofs.orders.orders_of.Given as goal

abbrev pub invariant-loop-c : goal.invariant-loop-c
invariant-loop-c l = AreOrdersTo (plain_level l.level) (row_lists l.rows) l.c (map four_of l.all.items)
