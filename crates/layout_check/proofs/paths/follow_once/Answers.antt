use Rattle.std.proofs.Common.{arith}
use Rattle.layout_check.proofs.StepLaws.{follow_step}
use Rattle.layout_check.proofs.paths.follow_once.Goals as goal

pub loop-step-preserved : goal.loop-step-preserved
loop-step-preserved c =
    rw c.either-changed.ensures
    (follow_step c.args.steps.now c.args._start c.loop-step.step-index c.args.marks.now c.loop-step.marks c.follow-now.new.marks c.loop-step.changed c.follow-now.result (omega arith) c.requires.below c.loop-step.invariant c.follow-now.ensures)
