use Rattle.level_model.specs.Conditions.{plain_level}
use Rattle.dock_table.specs.Entries.{AreLoopEntries}
use Rattle.dock_table.proofs.tables.loop_entries.Given as goal

abbrev pub invariant-loop-e : goal.invariant-loop-e
invariant-loop-e l = AreLoopEntries (plain_level l.level) l.entries l.north.places.items l.south.places.items l.e l.table.items
