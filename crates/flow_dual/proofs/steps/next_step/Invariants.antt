use Rattle.std.proofs.Common.{length}
use Rattle.flow_dual.specs.State.{marked}
use Rattle.flow_dual.specs.Queue.{waiting, AreInOrder, Drops}
use Rattle.flow_dual.proofs.steps.next_step.Given as goal

abbrev pub invariant-loop-step : goal.invariant-loop-step
invariant-loop-step l = AreInOrder l.steps × Drops l.edges (marked l.marks.reached.items) (waiting l.initial.steps) (waiting l.steps)

abbrev pub decreases-loop-step : goal.decreases-loop-step
decreases-loop-step l = length (waiting l.steps)
