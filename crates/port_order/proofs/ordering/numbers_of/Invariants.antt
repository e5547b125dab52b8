use Rattle.std.proofs.Common.{◌≡◌, map, take}
use Rattle.port_order.proofs.ordering.numbers_of.Given as goal

abbrev pub invariant-loop-rank : goal.invariant-loop-rank
invariant-loop-rank l = l.numbers.items ≡ map (λ r. r.number) (take l.rank-index l.ranks)
