use Rattle.std.proofs.Common.{◌≤◌, length}
use Rattle.net_simplex.specs.Cuts.{AreLifted}
use Rattle.net_simplex.proofs.cuts.lift_all.Given as goal

abbrev pub invariant-loop-left : goal.invariant-loop-left
invariant-loop-left l = (l.left ≤ length l.tree.order.items) × AreLifted (length l.tree.order.items) l.edges l.tree.marks.items l.tree.order.items l.tree.place.items l.tree.parent.items l.left l.excess l.cut

abbrev pub decreases-loop-left : goal.decreases-loop-left
decreases-loop-left l = l.left
