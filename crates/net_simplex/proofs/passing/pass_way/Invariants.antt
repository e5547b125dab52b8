use Rattle.std.proofs.Common.{◌+◌, length, get_or}
use Rattle.net_simplex.specs.Changed.{ArePassed}
use Rattle.net_simplex.proofs.passing.pass_way.Given as goal

abbrev pub invariant-way : goal.invariant-way
invariant-way l = ArePassed (length l.tree.order.items) l.edges l.tree.marks.items l.tree.place.items l.tree.parent.items l.begin l.end l.by l.initial.cut l.from l.to l.cut

abbrev pub decreases-way : goal.decreases-way
decreases-way l = get_or l.tree.place.items l.from 0 + get_or l.tree.place.items l.to 0
