use Rattle.level_split.specs.Gathered.{AreBoxes}
use Rattle.level_split.proofs.drawing.boxes_of.Given as goal

abbrev pub invariant-loop-i : goal.invariant-loop-i
invariant-loop-i l = AreBoxes l.outs l.at l.parts l.places l.i l.boxes.items
