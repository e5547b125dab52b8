use Rattle.elk_doc.specs.Places.{dock_of}
use Rattle.layout_check.specs.Shapes.{Lists}
use Rattle.layout_check.proofs.shape_lists.docks.Given as goal

abbrev pub invariant-loop-edge : goal.invariant-loop-edge
invariant-loop-edge l = Lists (λ e. dock_of l.doc l.placed e l.at_source) l.edge l.docks.items
