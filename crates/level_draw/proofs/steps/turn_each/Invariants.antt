use Rattle.std.proofs.Common.{◌≡◌}
use Rattle.level_model.specs.Traces.{reversed_step}
use Rattle.working_frame.proofs.MapLemmas.{changed}
use Rattle.level_draw.proofs.steps.turn_each.Given as goal

abbrev pub invariant-loop-i : goal.invariant-loop-i
invariant-loop-i l = l.steps ≡ changed reversed_step l.initial.steps l.i
