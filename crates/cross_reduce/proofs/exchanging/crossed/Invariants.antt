use Rattle.std.proofs.Common.{◌≡◌, ◌*◌, ◌≤◌, ◌^◌, take, nat_lt}
use Rattle.std.specs.List.{sum_by, count_by}
use Rattle.cross_reduce.specs.Fans.{far_keys}
use Rattle.cross_reduce.proofs.exchanging.crossed.Given as goal

abbrev pub invariant-loop-far : goal.invariant-loop-far
invariant-loop-far l =
    record {
      value : l.total ≡ sum_by (λ y. count_by (λ x. nat_lt y x) (far_keys l.place l.upper)) (take l.far-index (far_keys l.place l.lower));
      bound : l.total ≤ l.far-index * 2 ^ 24;
    }
