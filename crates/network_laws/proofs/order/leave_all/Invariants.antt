use Rattle.std.proofs.Common.{◌≡◌, ◌<◌, length}
use Rattle.std.specs.List.{All}
use Rattle.network_laws.proofs.order.leave_all.Given as goal

abbrev pub invariant-loop-turn : goal.invariant-loop-turn
invariant-loop-turn l =
    (length l.left ≡ length l.initial.left)
    × All (λ u. u < length l.initial.left) l.ready.items
    × All (λ k. k < length l.edges) l.order.items
