use Rattle.std.proofs.Common.{◌≡◌}
use Rattle.std.specs.List.{filter, range_with_len}
use Rattle.level_split.specs.Gathered.{is_marked, marks_in}
use Rattle.level_split.proofs.certificate.reversed_of.Given as goal

abbrev pub invariant-loop-i : goal.invariant-loop-i
invariant-loop-i l = l.found.items ≡ filter (is_marked (marks_in l.marks) l.parts l.places) (range_with_len 0 l.i)
