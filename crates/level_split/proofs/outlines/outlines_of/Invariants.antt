use Rattle.level_split.specs.Outlines.{AreOutlines}
use Rattle.level_split.proofs.outlines.outlines_of.Given as goal

abbrev pub invariant-loop-i : goal.invariant-loop-i
invariant-loop-i l = AreOutlines l.children l.ports l.i l.outlines.items
