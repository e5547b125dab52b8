use Rattle.std.proofs.Common.{◌≡◌, ◌-◌, map, take}
use Rattle.std.specs.List.{concat}
use Rattle.elk_layers.specs.Layered.{rows_of}
use Rattle.elk_layers.specs.Alignment.{visited_row}
use Rattle.bk_place.specs.Visits.{rows_in_order}
use Rattle.bk_place.proofs.visiting.visits.Given as goal

abbrev pub invariant-loop-i : goal.invariant-loop-i
invariant-loop-i l = l.visits.items ≡ concat (map (visited_row l.sweep) (take (l.i - 1) (rows_in_order l.sweep (rows_of l.order))))
