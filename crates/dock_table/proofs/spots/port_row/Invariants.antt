use Rattle.std.proofs.Common.{◌≡◌, map, Some}
use Rattle.std.specs.List.{range_with_len}
use Rattle.dock_table.specs.Rows.{bare}
use Rattle.dock_table.proofs.spots.port_row.Given as goal

abbrev pub invariant-loop-k : goal.invariant-loop-k
invariant-loop-k l = l.row.items ≡ map (λ k. bare (Some k) k) (range_with_len 0 l.k)
