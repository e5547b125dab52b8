use Rattle.std.proofs.Common.{◌≡◌}
use Rattle.working_frame.specs.Moved as spec
use Rattle.working_frame.proofs.MapLemmas.{changed}
use Rattle.working_frame.proofs.moving.move_steps.Given as goal

abbrev pub invariant-loop-i : goal.invariant-loop-i
invariant-loop-i l = l.steps ≡ changed (spec.moved_step l.by.y) l.initial.steps l.i
