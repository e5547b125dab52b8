use Rattle.std.proofs.Common.{◌≡◌, ◌<◌, ◌≤◌, ◌-◌, length}
use Rattle.std.specs.BinaryHeap.{IsHeap, heap_items}
use Rattle.network_laws.specs.Network.{edge_at}
use Rattle.network_laws.specs.Links.{end_of}
use Rattle.net_simplex.specs.Outward.{waiting_order, AreWaiting}
use Rattle.net_simplex.proofs.waiting.add_edges.Given as goal

abbrev pub invariant-loop-k : goal.invariant-loop-k
invariant-loop-k l =
    (l.k ≤ length l.edges)
    × (l.k < length l.edges → end_of l.end (edge_at l.edges l.k) ≡ l.v)
    × IsHeap waiting_order (heap_items l.queue)
    × AreWaiting l.edges l.end l.reached l.layers l.v l.k (heap_items l.queue)

abbrev pub decreases-loop-k : goal.decreases-loop-k
decreases-loop-k l = length l.edges - l.k
