use Rattle.std.proofs.Common.{ℕ, ◌<◌}
use Rattle.layout_check.specs.FirstRoutes.{ChildClear}
use Rattle.layout_check.proofs.clear.first_met.Given as goal

abbrev pub invariant-loop-child : goal.invariant-loop-child
invariant-loop-child l = (k : ℕ) → k < l.child → ChildClear l.scene.doc.now l.scene.placed.now l.node l.edge k
