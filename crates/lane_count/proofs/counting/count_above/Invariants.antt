use Rattle.std.proofs.Common.{◌≡◌, ◌+◌, ◌*◌, nat_lt, take, length, ◌/◌}
use Rattle.std.specs.List.{count_by}
use Rattle.lane_count.proofs.counting.count_above.Given as goal

abbrev pub invariant-loop-block : goal.invariant-loop-block
invariant-loop-block l = l.total ≡ count_by (λ x. nat_lt l.bound x) (take (l.block-index * 16) l.list)

abbrev pub invariant-loop-number : goal.invariant-loop-number
invariant-loop-number l =
    l.total ≡ count_by (λ x. nat_lt l.bound x) (take (length l.list / 16 * 16) l.list) + count_by (λ x. nat_lt l.bound x) (take l.number-index l.rest)
