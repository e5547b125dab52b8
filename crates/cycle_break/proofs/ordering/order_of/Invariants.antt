use Rattle.std.proofs.Common.{◌-◌, length}
use Rattle.cycle_break.specs.Ways.{node_keys}
use Rattle.cycle_break.specs.Search.{Sorted}
use Rattle.cycle_break.proofs.ordering.order_of.Given as goal

abbrev pub invariant-nodes : goal.invariant-nodes
invariant-nodes l = Sorted l.arena l.work (node_keys l.order.items) (node_keys l.order.items) (node_keys l.ready.items)

abbrev pub decreases-nodes : goal.decreases-nodes
decreases-nodes l = length l.arena.nodes - length l.order.items
