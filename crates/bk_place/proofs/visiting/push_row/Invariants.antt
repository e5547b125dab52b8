use Rattle.std.proofs.Common.{◌≡◌, ◌++◌, take}
use Rattle.elk_layers.specs.Alignment.{visited_row}
use Rattle.bk_place.proofs.visiting.push_row.Given as goal

abbrev pub invariant-loop-i : goal.invariant-loop-i
invariant-loop-i l = l.visits.items ≡ l.initial.visits.items ++ take l.i (visited_row l.fn.sweep l.row)
