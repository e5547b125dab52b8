use Rattle.elk_doc.specs.Sides.{side_of_port}
use Rattle.layout_check.specs.Shapes.{Lists}
use Rattle.layout_check.proofs.shape_lists.sides.Given as goal

abbrev pub invariant-loop-port : goal.invariant-loop-port
invariant-loop-port l = Lists (side_of_port l.doc l.placed) l.port l.sides.items
