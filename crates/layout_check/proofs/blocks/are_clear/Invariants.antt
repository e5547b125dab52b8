use Rattle.std.proofs.Common.{ℕ, ◌<◌}
use Rattle.layout_check.specs.FirstRoutes.{ClearHolds}
use Rattle.layout_check.proofs.blocks.are_clear.Given as goal

abbrev pub invariant-loop-edge : goal.invariant-loop-edge
invariant-loop-edge l = (k : ℕ) → k < l.edge → (a : ℕ) → ClearHolds l.scene.doc.now l.scene.placed.now l.node k a
