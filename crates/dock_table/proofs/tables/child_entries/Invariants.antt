use Rattle.std.proofs.Common.{map}
use Rattle.level_model.specs.Conditions.{plain_level}
use Rattle.dock_table.specs.Entries.{AreEntries}
use Rattle.dock_table.specs.Lanes.{plain_lanes}
use Rattle.dock_table.specs.Sides.{dock_lists}
use Rattle.dock_table.proofs.tables.child_entries.Given as goal

abbrev pub invariant-loop-c : goal.invariant-loop-c
invariant-loop-c l = AreEntries (plain_level l.level) l.units (dock_lists l.docks) (map plain_lanes l.lanes) l.c l.entries.items
