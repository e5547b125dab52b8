use Rattle.std.proofs.Common.{◌≡◌, ◌+◌}
use Rattle.dock_table.specs.Lanes.{NumbersLanes, lanes_to}
use Rattle.dock_table.proofs.lanes.number_lanes.Given as goal

abbrev pub invariant-loop-j : goal.invariant-loop-j
invariant-loop-j l = record { next : l.next ≡ l.start + lanes_to l.side l.sides l.j; places : NumbersLanes l.side l.sides l.start l.j l.initial.places l.places }
