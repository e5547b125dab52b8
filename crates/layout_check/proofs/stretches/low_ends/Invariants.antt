use Rattle.layout_check.specs.Ends.{AreLowEnds}
use Rattle.layout_check.proofs.stretches.low_ends.Given as goal

abbrev pub invariant-loop-node : goal.invariant-loop-node
invariant-loop-node l = AreLowEnds l.scene.doc.now l.scene.placed.now l.down l.node l.ends.items
