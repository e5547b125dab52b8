use Rattle.std.proofs.Common.{◌-◌, ◌<◌, ◌≤◌, length}
use Rattle.net_simplex.specs.Rooted.{above}
use Rattle.net_simplex.specs.Walks.{AreSizesTo}
use Rattle.net_simplex.proofs.first_walk.sum_sizes.Given as goal

abbrev pub invariant-loop-left : goal.invariant-loop-left
invariant-loop-left l =
    (0 < l.left) × (l.left ≤ length l.tree.order.items)
    × AreSizesTo (length l.tree.order.items) l.tree.order.items (above l.edges l.tree.parent.items) l.left (length l.tree.order.items - l.left) l.size

abbrev pub decreases-loop-left : goal.decreases-loop-left
decreases-loop-left l = l.left
