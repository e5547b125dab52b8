use Rattle.std.proofs.Common.{length}
use Rattle.level_parts.specs.Split.{part_at}
use Rattle.level_split.specs.Gathered.{AreReversals, marks_in}
use Rattle.level_split.proofs.certificate.reversals_of.Given as goal

abbrev pub invariant-loop-i : goal.invariant-loop-i
invariant-loop-i l = AreReversals l.outs (λ k. length (part_at l.parts k).edges) l.i (marks_in l.marks.items)
