use Rattle.std.proofs.Common.{◌≡◌, take}
use Rattle.cross_reduce.specs.HeldRows.{held_units}
use Rattle.cross_reduce.proofs.holding.held_in.Given as goal

abbrev pub invariant-loop-unit : goal.invariant-loop-unit
invariant-loop-unit l = l.units.items ≡ held_units l.held (take l.unit-index l.row)
