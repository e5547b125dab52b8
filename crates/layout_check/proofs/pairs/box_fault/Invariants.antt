use Rattle.std.proofs.Common.{ℕ, ◌<◌}
use Rattle.layout_check.specs.FirstApart.{BoxesHold}
use Rattle.layout_check.proofs.pairs.box_fault.Given as goal

abbrev pub invariant-loop-one : goal.invariant-loop-one
invariant-loop-one l = (k : ℕ) → k < l.one → (b : ℕ) → BoxesHold l.level.scene.now.doc.now l.level.scene.now.placed.now l.level.node l.level.options.now k b
