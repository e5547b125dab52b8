use Rattle.net_simplex.proofs.AtEnd.{IsLoweredTo}
use Rattle.net_simplex.proofs.solving.lower.Given as goal

abbrev pub invariant-loop-v : goal.invariant-loop-v
invariant-loop-v l = IsLoweredTo l.least l.initial.layers l.v l.layers
