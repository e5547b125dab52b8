use Rattle.network_laws.specs.Paths.{RaisedOnce}
use Rattle.network_laws.proofs.sums.raise_once.Given as goal

abbrev pub invariant-loop-e : goal.invariant-loop-e
invariant-loop-e l = RaisedOnce l.edges l.e-index l.initial.sums l.sums l.changed
