use Rattle.network_laws.specs.Joining.{ArePassed}
use Rattle.network_laws.proofs.parts.join_once.Given as goal

abbrev pub invariant-loop-k : goal.invariant-loop-k
invariant-loop-k l = ArePassed l.edges l.k l.initial.names l.names l.changed
