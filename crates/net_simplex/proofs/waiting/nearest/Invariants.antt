use Rattle.std.proofs.Common.{length}
use Rattle.std.specs.BinaryHeap.{heap_items, IsHeap}
use Rattle.net_simplex.specs.Outward.{waiting_order, AreWaiting}
use Rattle.net_simplex.proofs.waiting.nearest.Given as goal

abbrev pub invariant-loop-first : goal.invariant-loop-first
invariant-loop-first l =
    IsHeap waiting_order (heap_items l.queue) × AreWaiting l.edges l.end l.reached l.layers 0 (length l.edges) (heap_items l.queue)

abbrev pub decreases-loop-first : goal.decreases-loop-first
decreases-loop-first l = length (heap_items l.queue)
