use Rattle.std.proofs.Common.{◌≡◌, ◌<◌, ◌≤◌, ◌-◌, length}
use Rattle.std.specs.List.{All}
use Rattle.network_laws.proofs.order.leave.Given as goal

abbrev pub invariant-loop-k : goal.invariant-loop-k
invariant-loop-k l =
    (l.k ≤ length l.edges)
    × (length l.left ≡ length l.initial.left)
    × All (λ u. u < length l.initial.left) l.ready.items
    × All (λ k. k < length l.edges) l.order.items

abbrev pub decreases-loop-k : goal.decreases-loop-k
decreases-loop-k l = length l.edges - l.k
