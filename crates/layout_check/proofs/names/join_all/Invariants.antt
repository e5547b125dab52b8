use Rattle.layout_check.specs.Names.{AreNamesBelow}
use Rattle.layout_check.proofs.names.join_all.Given as goal

abbrev pub invariant-loop-edge : goal.invariant-loop-edge
invariant-loop-edge l = AreNamesBelow l.doc l.node l.edge l.names
