use Rattle.level_split.specs.Gathered.{AreMarked}
use Rattle.level_split.proofs.certificate.listed_marks.Given as goal

abbrev pub invariant-loop-i : goal.invariant-loop-i
invariant-loop-i l = AreMarked l.listed l.count l.i l.marks.items
