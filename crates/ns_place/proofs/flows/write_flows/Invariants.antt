use Rattle.ns_place.specs.Flows.{WritesFlows}
use Rattle.ns_place.proofs.flows.write_flows.Given as goal

abbrev pub invariant-loop-i : goal.invariant-loop-i
invariant-loop-i l = WritesFlows l.flow l.first l.initial.pairs l.i l.pairs
