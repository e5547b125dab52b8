use Rattle.network_laws.specs.Sorted.{SumsEdges}
use Rattle.network_laws.proofs.sorted.sorted_sums.Given as goal

abbrev pub invariant-loop-e : goal.invariant-loop-e
invariant-loop-e l = SumsEdges l.nodes l.edges l.e-index l.least l.weight
