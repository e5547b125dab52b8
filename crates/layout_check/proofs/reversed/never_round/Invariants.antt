use Rattle.std.proofs.Common.{ℕ, ◌<◌}
use Rattle.elk_doc.specs.Paths.{Reaches}
use Rattle.layout_check.specs.Steps.{step_at, HasStep}
use Rattle.layout_check.proofs.reversed.never_round.Given as goal

abbrev pub invariant-loop-step : goal.invariant-loop-step
invariant-loop-step l = (k : ℕ) → k < l.step-index → Reaches (HasStep l.steps) (step_at l.steps k).to (step_at l.steps k).from → ⊥
