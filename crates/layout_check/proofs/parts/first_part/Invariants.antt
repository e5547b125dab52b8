use Rattle.std.proofs.Common.{ℕ, ◌<◌}
use Rattle.layout_check.specs.FirstApart.{PartHolds}
use Rattle.layout_check.proofs.parts.first_part.Given as goal

abbrev pub invariant-loop-child : goal.invariant-loop-child
invariant-loop-child l = (k : ℕ) → k < l.child → PartHolds l.level.scene.now.doc.now l.level.node l.level.options.now l.level.certificate.now k
