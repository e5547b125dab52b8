use Rattle.layer_units.specs.Layering.{IsCountTo}
use Rattle.layer_units.proofs.units.layer_count.Given as goal

abbrev pub invariant-loop-child : goal.invariant-loop-child
invariant-loop-child l = IsCountTo l.layers l.child l.count
