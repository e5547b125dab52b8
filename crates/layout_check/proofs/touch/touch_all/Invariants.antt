use Rattle.layout_check.specs.Shapes.{AreTouchedBelow}
use Rattle.layout_check.proofs.touch.touch_all.Given as goal

abbrev pub invariant-loop-edge : goal.invariant-loop-edge
invariant-loop-edge l = AreTouchedBelow l.doc l.placed l.at_head l.edge l.marks
