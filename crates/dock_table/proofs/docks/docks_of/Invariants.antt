use Rattle.std.proofs.Common.{map}
use Rattle.level_model.specs.Conditions.{plain_level}
use Rattle.dock_table.specs.Rows.{row_lists}
use Rattle.dock_table.specs.Sides.{AreDocks, four_of}
use Rattle.dock_table.proofs.docks.docks_of.Given as goal

abbrev pub invariant-loop-c : goal.invariant-loop-c
invariant-loop-c l = AreDocks (plain_level l.level) (row_lists l.rows) (map four_of l.orders) l.c (map (λ ds. ds.items) l.lists.items)
