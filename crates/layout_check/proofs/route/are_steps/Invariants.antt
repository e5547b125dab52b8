use Rattle.std.proofs.Common.{ℕ, ◌<◌, ◌+◌}
use Rattle.elk_doc.specs.Route.{IsStep}
use Rattle.layout_check.specs.Stretches.{point_of}
use Rattle.layout_check.proofs.route.are_steps.Given as goal

abbrev pub invariant-loop-i : goal.invariant-loop-i
invariant-loop-i l = (k : ℕ) → k < l.i → IsStep (point_of l.section k) (point_of l.section (k + 1))
