use Rattle.std.proofs.Common.{ℕ, ◌<◌, slice_index}
use Rattle.layout_check.specs.Steps.{step_at}
use Rattle.layout_check.proofs.reversed.are_rising.Given as goal

abbrev pub invariant-loop-step : goal.invariant-loop-step
invariant-loop-step l = (k : ℕ) → k < l.step-index → slice_index l.heights (step_at l.steps k).from < slice_index l.heights (step_at l.steps k).to
