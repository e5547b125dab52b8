use Rattle.elk_doc.specs.Drawing.{no_rect}
use Rattle.level_io.specs.Changed.{AreChangedTo}
use Rattle.level_io.specs.Written.{box_change}
use Rattle.level_io.proofs.writing.write_boxes.Given as goal

abbrev pub invariant-loop-i : goal.invariant-loop-i
invariant-loop-i l = AreChangedTo l.i l.children (box_change l.way l.by l.places) no_rect l.initial.boxes l.boxes
