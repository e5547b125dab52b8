use Rattle.std.proofs.Common.{ℕ, ◌*◌, ◌<◌}
use Rattle.layout_check.specs.FirstRoutes.{ChildClear}
use Rattle.layout_check.proofs.blocks.all_clear.Given as goal

abbrev pub invariant-loop-block : goal.invariant-loop-block
invariant-loop-block l = (k : ℕ) → k < l.block * 16 → k < l.count → ChildClear l.scene.doc.now l.scene.placed.now l.node l.edge k
