use Rattle.flow_dual.specs.Start.{HasBegun}
use Rattle.flow_dual.proofs.start.begin.Given as goal

abbrev pub invariant-loop-k : goal.invariant-loop-k
invariant-loop-k l = HasBegun l.edges l.layer l.k l.flow l.excess
