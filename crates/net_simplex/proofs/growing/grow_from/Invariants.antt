use Rattle.std.proofs.Common.{◌≡◌, ◌-◌, length}
use Rattle.net_simplex.specs.Pivots.{grown, seed}
use Rattle.net_simplex.specs.Grown.{growing_of, Grows}
use Rattle.net_simplex.specs.Outward.{AreQueues}
use Rattle.net_simplex.proofs.growing.grow_from.Given as goal

abbrev pub invariant-loop-i : goal.invariant-loop-i
invariant-loop-i l =
    Grows (length l.fn.layers) l.edges l.i l.tree l.reached l.by l.layers
    × (grown l.edges (length l.fn.layers - l.i) (growing_of l.tree.marks.items l.reached l.by l.layers) ≡ grown l.edges (length l.fn.layers - 1) (seed (length l.fn.layers) l.edges l.fn.layers))
    × AreQueues l.edges l.reached l.layers l.queues
