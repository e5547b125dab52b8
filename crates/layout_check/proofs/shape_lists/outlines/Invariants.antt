use Rattle.elk_doc.specs.Places.{outline_of}
use Rattle.layout_check.specs.Shapes.{Lists}
use Rattle.layout_check.proofs.shape_lists.outlines.Given as goal

abbrev pub invariant-loop-node : goal.invariant-loop-node
invariant-loop-node l = Lists (outline_of l.doc l.placed) l.node l.rects.items
