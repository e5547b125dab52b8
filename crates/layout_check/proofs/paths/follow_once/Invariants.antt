use Rattle.layout_check.specs.Steps.{FollowsOnce}
use Rattle.layout_check.proofs.paths.follow_once.Given as goal

abbrev pub invariant-loop-step : goal.invariant-loop-step
invariant-loop-step l = FollowsOnce l.steps l._start l.step-index l.fn.marks l.marks l.changed
