use Rattle.std.proofs.Common.{map}
use Rattle.level_model.specs.Conditions.{plain_level}
use Rattle.dock_table.specs.Entries.{AreLanesOf}
use Rattle.dock_table.specs.Lanes.{plain_lanes}
use Rattle.dock_table.specs.Rows.{row_lists}
use Rattle.dock_table.specs.Sides.{dock_lists}
use Rattle.dock_table.proofs.tables.lanes_of.Given as goal

abbrev pub invariant-loop-c : goal.invariant-loop-c
invariant-loop-c l = AreLanesOf (plain_level l.level) (row_lists l.spots.rows) (dock_lists l.docks) l.north.counts.items l.south.counts.items l.c (map plain_lanes l.all.items)
