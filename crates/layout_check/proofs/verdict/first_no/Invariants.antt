use Rattle.std.proofs.Common.{ℕ, ◌<◌}
use Rattle.layout_check.specs.Definitions.{Everywhere, definition_at}
use Rattle.layout_check.proofs.verdict.first_no.Given as goal

abbrev pub invariant-loop-place : goal.invariant-loop-place
invariant-loop-place l = (i : ℕ) → i < l.place → Everywhere (definition_at i) l.scene.doc.now l.scene.placed.now
