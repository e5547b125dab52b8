use Rattle.level_split.specs.Placing.{StandInRows}
use Rattle.level_split.proofs.placing.boxes_of.Given as goal

abbrev pub invariant-loop-i : goal.invariant-loop-i
invariant-loop-i l = StandInRows l.way l.rows l.outlines l.i l.boxes.items
