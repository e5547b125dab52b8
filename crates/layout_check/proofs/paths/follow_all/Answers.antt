use Rattle.layout_check.proofs.StepLaws.{pass_smaller, closed_reaches}
use Rattle.layout_check.proofs.paths.follow_all.Goals as goal

pub loop-changed-smaller : goal.loop-changed-smaller
loop-changed-smaller c =
    let once = c.follow_once-changed.ensures in
    pass_smaller c.loop-changed.marks c.follow_once-changed.new.marks c.loop-changed.changed c.follow_once-changed.result c.loop-changed-test.true once.as_long once.more once.stays

pub returns-clause-marks : goal.returns-clause-marks
returns-clause-marks c = λ v. (
  c.loop-changed.invariant.reached v,
  λ r. closed_reaches c.args.steps.now c.loop-changed.marks c.args.start v (c.loop-changed.invariant.closed c.loop-changed-test.false) r c.loop-changed.invariant.start,
)
