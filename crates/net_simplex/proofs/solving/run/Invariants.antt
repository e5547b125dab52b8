use Rattle.std.proofs.Common.{◌-◌, ◌≤◌, length}
use Rattle.net_simplex.specs.Cuts.{AreCutValues}
use Rattle.net_simplex.specs.Outcome.{Reaches}
use Rattle.net_simplex.specs.Kept.{Keeps}
use Rattle.net_simplex.specs.Walks.{HasWalk}
use Rattle.net_simplex.proofs.solving.run.Given as goal

abbrev pub invariant-pivots : goal.invariant-pivots
invariant-pivots l =
    (l.made ≤ l.budget)
    × Keeps (length l.initial.layers) l.edges l.tree l.layers
    × Reaches (length l.initial.layers) l.edges l.made l.initial.tree.marks.items l.initial.layers l.tree.marks.items l.layers
    × AreCutValues (length l.initial.layers) l.edges l.tree.marks.items l.cut
    × HasWalk (length l.initial.layers) l.edges l.tree l.walk

abbrev pub decreases-pivots : goal.decreases-pivots
decreases-pivots l = l.budget - l.made
