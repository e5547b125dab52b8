use Rattle.network_parts.specs.Dividing.{ArePlaces}
use Rattle.level_parts.specs.Groups.{HoldRows, lists_of}
use Rattle.level_parts.proofs.grouping.fill.Given as goal

abbrev pub invariant-loop-i : goal.invariant-loop-i
invariant-loop-i l = ArePlaces l.keys l.i l.places.items × HoldRows l.keys l.i (lists_of l.rows)
