use Rattle.layout_check.specs.Sums.{AreSumsBelow}
use Rattle.layout_check.proofs.sums.add_all.Given as goal

abbrev pub invariant-loop-edge : goal.invariant-loop-edge
invariant-loop-edge l = AreSumsBelow l.doc l.node l.ends l.values l.edge l.sums
