use Rattle.std.proofs.Common.{◌≡◌, ◌++◌, drop}
use Rattle.elk_layers.specs.Layered.{plain, rows_of}
use Rattle.ns_place.specs.Pairs.{all_pairs}
use Rattle.ns_place.proofs.pairs.pairs_of.Given as goal

abbrev pub invariant-loop-row : goal.invariant-loop-row
invariant-loop-row l =
    l.pairs.items ++ all_pairs (plain l.layered) (drop l.row-index (rows_of l.order)) ≡ all_pairs (plain l.layered) (rows_of l.order)
