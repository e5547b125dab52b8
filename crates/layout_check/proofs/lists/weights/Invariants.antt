use Rattle.elk_doc.specs.FlowProof.{weight_at}
use Rattle.layout_check.specs.Shapes.{Lists}
use Rattle.layout_check.proofs.lists.weights.Given as goal

abbrev pub invariant-loop-edge : goal.invariant-loop-edge
invariant-loop-edge l = Lists (weight_at l.doc) l.edge l.weights.items
