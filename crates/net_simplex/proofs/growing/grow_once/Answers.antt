use Rattle.std.proofs.Common.{length}
use Rattle.std.specs.BinaryHeap.{heap_items}
use Rattle.network_laws.specs.declared.links.End.TheVariants.{Tail, Head}
use Rattle.net_simplex.proofs.Outgoing.{queue_joined}
use Rattle.net_simplex.proofs.growing.grow_once.Goals as goal

pub add_both-requires-clause-queues : goal.add_both-requires-clause-queues
add_both-requires-clause-queues c =
    let n = length c.args.layers.now in
    let edges = c.args.edges.now in
    let q = c.joining-choice.ensures.queues in
    let j = c.grow_by-now.ensures.joined in
    rw c.node_at.ensures (
      queue_joined n edges c.requires.network.ends Tail c.args.grown.filled c.args.reached.now c.args.layers.now c.grow_by-now.new.tree.order.items c.grow_by-now.new.reached c.grow_by-now.new.layers j (heap_items c.joining-choice.new.queues.rising) q.0,
      queue_joined n edges c.requires.network.ends Head c.args.grown.filled c.args.reached.now c.args.layers.now c.grow_by-now.new.tree.order.items c.grow_by-now.new.reached c.grow_by-now.new.layers j (heap_items c.joining-choice.new.queues.falling) q.1,
    )
