use Rattle.std.proofs.Common.{ℕ, ◌<◌}
use Rattle.layout_check.specs.FirstRoutes.{SharingHolds}
use Rattle.layout_check.proofs.sharing.first_partner.Given as goal

abbrev pub invariant-loop-other : goal.invariant-loop-other
invariant-loop-other l = (k : ℕ) → k < l.other → SharingHolds l.scene.doc.now l.scene.placed.now l.node l.edge k
