use Rattle.std.proofs.Common.{ℕ, ◌<◌}
use Rattle.layout_check.specs.FirstRoutes.{SharingHolds}
use Rattle.layout_check.proofs.sharing.sharing_fault_by_pairs.Given as goal

abbrev pub invariant-loop-edge : goal.invariant-loop-edge
invariant-loop-edge l = (k : ℕ) → k < l.edge → (f : ℕ) → SharingHolds l.scene.doc.now l.scene.placed.now l.node k f
