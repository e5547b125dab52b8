use Rattle.elk_doc.specs.Drawing.{is_listed}
use Rattle.layout_check.specs.Shapes.{Lists}
use Rattle.layout_check.proofs.shape_lists.listed.Given as goal

abbrev pub invariant-loop-edge : goal.invariant-loop-edge
invariant-loop-edge l = Lists (is_listed l.doc l.placed) l.edge l.listed.items
