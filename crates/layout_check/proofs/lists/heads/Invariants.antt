use Rattle.elk_doc.specs.Drawing.{head_node}
use Rattle.layout_check.specs.Shapes.{Lists}
use Rattle.layout_check.proofs.lists.heads.Given as goal

abbrev pub invariant-loop-edge : goal.invariant-loop-edge
invariant-loop-edge l = Lists (head_node l.doc l.placed) l.edge l.ends.items
