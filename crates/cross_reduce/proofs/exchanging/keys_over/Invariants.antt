use Rattle.std.proofs.Common.{◌≡◌, ◌≤◌, take, nat_lt}
use Rattle.std.specs.List.{count_by}
use Rattle.cross_reduce.specs.Fans.{far_keys}
use Rattle.cross_reduce.proofs.exchanging.keys_over.Given as goal

abbrev pub invariant-loop-far : goal.invariant-loop-far
invariant-loop-far l =
    record {
      value : l.total ≡ count_by (λ x. nat_lt l.key x) (take l.far-index (far_keys l.place l.fan));
      bound : l.total ≤ l.far-index;
    }
