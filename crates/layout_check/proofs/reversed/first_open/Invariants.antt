use Rattle.std.proofs.Common.{ℕ, ◌<◌}
use Rattle.layout_check.specs.FirstLevels.{ClosesAt}
use Rattle.layout_check.proofs.reversed.first_open.Given as goal

abbrev pub invariant-loop-edge : goal.invariant-loop-edge
invariant-loop-edge l = (k : ℕ) → k < l.edge → ClosesAt l.doc l.node l.certificate k
