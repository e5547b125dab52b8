use Rattle.std.proofs.Common.{◌-◌, length}
use Rattle.net_simplex.specs.Rooted.{above}
use Rattle.net_simplex.specs.Walks.{ArePlacedTo}
use Rattle.net_simplex.proofs.first_walk.place_all.Given as goal

abbrev pub invariant-loop-i : goal.invariant-loop-i
invariant-loop-i l = ArePlacedTo (length l.order) l.order l.fn.place (above l.edges l.parent) l.size l.i (length l.order - l.i) l.place l.next
