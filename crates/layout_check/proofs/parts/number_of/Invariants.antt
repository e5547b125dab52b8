use Rattle.std.proofs.Common.{◌≡◌, ◌≤◌}
use Rattle.elk_doc.specs.Numbers.{count_below}
use Rattle.layout_check.specs.FirstApart.{is_leader}
use Rattle.layout_check.proofs.parts.number_of.Given as goal

abbrev pub invariant-loop-leader : goal.invariant-loop-leader
invariant-loop-leader l = record { counted : l.count ≡ count_below (is_leader l.doc l.node l.names) l.leader; few : l.count ≤ l.leader }
