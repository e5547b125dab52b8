use Rattle.std.proofs.Common.{ℕ, ◌<◌}
use Rattle.layout_check.specs.FirstLevels.{IsIdle}
use Rattle.layout_check.proofs.flow.are_idle.Given as goal

abbrev pub invariant-loop-edge : goal.invariant-loop-edge
invariant-loop-edge l = (k : ℕ) → k < l.edge → IsIdle l.doc l.node l.certificate k
