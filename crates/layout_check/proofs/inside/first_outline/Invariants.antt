use Rattle.std.proofs.Common.{ℕ, ◌<◌}
use Rattle.layout_check.specs.FirstInside.{OutlineHolds}
use Rattle.layout_check.proofs.inside.first_outline.Given as goal

abbrev pub invariant-loop-child : goal.invariant-loop-child
invariant-loop-child l = (k : ℕ) → k < l.child → OutlineHolds l.scene.doc.now l.scene.placed.now l.node l.options k
