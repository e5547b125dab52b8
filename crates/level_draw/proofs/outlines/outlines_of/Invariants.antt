use Rattle.level_draw.specs.Outlines.{AreOutlines}
use Rattle.level_draw.proofs.outlines.outlines_of.Given as goal

abbrev pub invariant-loop-c : goal.invariant-loop-c
invariant-loop-c l = AreOutlines l.children l.boxes l.c l.outlines.items
