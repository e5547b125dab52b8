use Rattle.std.proofs.Common.{ℕ, ◌<◌}
use Rattle.layout_check.specs.FirstApart.{BoxesHold}
use Rattle.layout_check.proofs.pairs.first_box.Given as goal

abbrev pub invariant-loop-other : goal.invariant-loop-other
invariant-loop-other l = (k : ℕ) → k < l.other → BoxesHold l.level.scene.now.doc.now l.level.scene.now.placed.now l.level.node l.level.options.now l.one k
