use Rattle.std.proofs.Common.{ℕ, ◌<◌}
use Rattle.layout_check.specs.FirstLevels.{IsBalanced}
use Rattle.layout_check.proofs.sums.all_balance.Given as goal

abbrev pub invariant-loop-child : goal.invariant-loop-child
invariant-loop-child l = (k : ℕ) → k < l.child → IsBalanced l.scene.doc.now l.scene.placed.now l.node l.certificate k
