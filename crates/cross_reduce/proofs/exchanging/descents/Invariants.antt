use Rattle.std.proofs.Common.{◌≡◌, ◌*◌, ◌≤◌, ◌^◌, take, nat_lt}
use Rattle.std.specs.List.{sum_by, count_by}
use Rattle.cross_reduce.proofs.exchanging.descents.Given as goal

abbrev pub invariant-loop-key : goal.invariant-loop-key
invariant-loop-key l =
    record {
      value : l.total ≡ sum_by (λ y. count_by (λ x. nat_lt y x) l.upper) (take l.key-index l.lower);
      bound : l.total ≤ l.key-index * 2 ^ 24;
    }
