use Rattle.elk_doc.specs.Drawing.{tail_node}
use Rattle.layout_check.specs.Shapes.{Lists}
use Rattle.layout_check.proofs.lists.tails.Given as goal

abbrev pub invariant-loop-edge : goal.invariant-loop-edge
invariant-loop-edge l = Lists (tail_node l.doc l.placed) l.edge l.ends.items
