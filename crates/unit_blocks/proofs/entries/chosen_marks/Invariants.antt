use Rattle.unit_blocks.specs.Entries.{AreChosenMarks}
use Rattle.unit_blocks.proofs.entries.chosen_marks.Given as goal

abbrev pub invariant-loop-k : goal.invariant-loop-k
invariant-loop-k l = AreChosenMarks l.chosen l.k-index l.count l.marks.items
