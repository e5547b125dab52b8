use Rattle.std.proofs.Common.{◌+◌, length, get_or}
use Rattle.net_simplex.specs.Rerooting.{AreResizedTo}
use Rattle.net_simplex.proofs.rerooting.resize.Given as goal

abbrev pub invariant-way : goal.invariant-way
invariant-way l = AreResizedTo (length l.tree.order.items) l.tree.place.items l.initial.size l.many l.from l.to l.low l.high l.size

abbrev pub decreases-way : goal.decreases-way
decreases-way l = get_or l.tree.place.items l.low 0 + get_or l.tree.place.items l.high 0
