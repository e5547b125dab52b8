use Rattle.std.proofs.Common.{map}
use Rattle.level_model.specs.Conditions.{plain_level}
use Rattle.dock_table.specs.Entries.{AreEndEntries}
use Rattle.dock_table.specs.Lanes.{plain_lanes}
use Rattle.dock_table.proofs.tables.end_entries.Given as goal

abbrev pub invariant-loop-e : goal.invariant-loop-e
invariant-loop-e l = AreEndEntries (plain_level l.level) l.numbers l.ends (map plain_lanes l.lanes) l.entries l.e l.table.items
