use Rattle.std.proofs.Common.{length, take}
use Rattle.level_model.specs.Marks.{AreMarks}
use Rattle.level_model.proofs.marks.mark_all.Given as goal

abbrev pub invariant-loop-number : goal.invariant-loop-number
invariant-loop-number l = AreMarks (take l.number-index l.numbers) (length l.initial.marks) l.marks
