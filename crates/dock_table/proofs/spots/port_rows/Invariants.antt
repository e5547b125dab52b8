use Rattle.std.proofs.Common.{map}
use Rattle.level_model.specs.Conditions.{plain_level}
use Rattle.dock_table.specs.Rows.{ArePortRows}
use Rattle.dock_table.proofs.spots.port_rows.Given as goal

abbrev pub invariant-loop-child : goal.invariant-loop-child
invariant-loop-child l = ArePortRows (plain_level l.level) l.child-index (map (λ v. v.items) l.lists.items)
