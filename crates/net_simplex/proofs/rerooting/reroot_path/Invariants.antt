use Rattle.std.proofs.Common.{◌≡◌, ℕ, List, length, get_or}
use Rattle.net_simplex.specs.Rooted.{above}
use Rattle.net_simplex.specs.Rerooting.{IsWayUp, IsRerootedTo}
use Rattle.net_simplex.proofs.rerooting.reroot_path.Given as goal

abbrev pub invariant-way : goal.invariant-way
invariant-way l =
    (l.tree.marks.items ≡ l.fn.tree.marks.items)
    × (l.tree.order.items ≡ l.fn.tree.order.items)
    × ((was : List ℕ)
    → IsWayUp (length l.fn.tree.order.items) l.edges l.fn.tree.order.items l.fn.tree.place.items was l.fn.tree.parent.items l.child l.from l.fn.walk.size.items
    → IsRerootedTo (length l.fn.tree.order.items) l.fn.tree.place.items was l.fn.tree.parent.items (above l.edges l.fn.tree.parent.items) l.child l.from l.base l.by l.v l.fn.walk.size.items l.tree.place.items l.walk.size.items l.tree.parent.items l.walk.next.items
    × (l.part.link ≡ get_or l.fn.tree.parent.items l.v 0)
    × (l.part.low ≡ get_or l.fn.tree.place.items l.v 0)
    × (l.part.held ≡ get_or was l.v 0)
    × (l.many ≡ get_or was l.child 0))

abbrev pub decreases-way : goal.decreases-way
decreases-way l = get_or l.fn.tree.place.items l.v 0
