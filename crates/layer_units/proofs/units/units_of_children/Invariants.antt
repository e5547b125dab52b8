use Rattle.std.proofs.Common.{◌≡◌}
use Rattle.layer_units.specs.Grown.{child_units}
use Rattle.layer_units.proofs.units.units_of_children.Given as goal

abbrev pub invariant-loop-child : goal.invariant-loop-child
invariant-loop-child l = l.units.items ≡ child_units l.layers l.child
