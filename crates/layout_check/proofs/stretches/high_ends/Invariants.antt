use Rattle.layout_check.specs.Ends.{AreHighEnds}
use Rattle.layout_check.proofs.stretches.high_ends.Given as goal

abbrev pub invariant-loop-node : goal.invariant-loop-node
invariant-loop-node l = AreHighEnds l.scene.doc.now l.scene.placed.now l.down l.node l.ends.items
