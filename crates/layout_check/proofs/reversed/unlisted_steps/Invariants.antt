use Rattle.layout_check.specs.FirstLevels.{AreStepsBelow}
use Rattle.layout_check.proofs.reversed.unlisted_steps.Given as goal

abbrev pub invariant-loop-edge : goal.invariant-loop-edge
invariant-loop-edge l = AreStepsBelow l.doc l.node l.certificate l.edge l.steps.items
