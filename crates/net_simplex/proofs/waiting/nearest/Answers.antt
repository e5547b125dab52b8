use Rattle.std.proofs.Common.{length}
use Rattle.std.specs.BinaryHeap.{heap_items}
use Rattle.net_simplex.proofs.Outgoing.{first_there, first_nearest, first_dropped, none_nearest, queue_falls, both_below}
use Rattle.net_simplex.proofs.waiting.nearest.Goals as goal

pub loop-first-init : goal.loop-first-init
loop-first-init c = (c.requires.heap, c.requires.waiting)

pub first_waiting-requires : goal.first_waiting-requires
first_waiting-requires c = c.loop-first.invariant.0

pub bounds-edges-k : goal.bounds-edges-k
bounds-edges-k c = first_there _ _ _ _ _ _ _ _ c.in-Some.ensures.some c.loop-first.invariant.1

pub is_out-requires : goal.is_out-requires
is_out-requires c =
    (both_below (length c.args.reached.now) _ c.requires.ends c.args.end c.args.end c.in-Some.first.edge.0 (first_there _ _ _ _ _ _ _ _ c.in-Some.ensures.some c.loop-first.invariant.1)).1

pub drop_first-requires : goal.drop_first-requires
drop_first-requires c = c.loop-first.invariant.0

pub loop-first-smaller : goal.loop-first-smaller
loop-first-smaller c = queue_falls _ _ _ c.in-Some.ensures.some c.drop_first.ensures.loses

pub loop-first-preserved : goal.loop-first-preserved
loop-first-preserved c = (c.drop_first.ensures.heap, first_dropped _ _ _ _ _ _ _ _ _ c.in-Some.ensures.some c.drop_first.ensures.loses (c.is_out.ensures.held c.if-is_out.false) c.loop-first.invariant.1)

pub returns-then-is_out : goal.returns-then-is_out
returns-then-is_out c = record {
  heap = c.loop-first.invariant.0;
  waiting = c.loop-first.invariant.1;
  nearest = first_nearest _ _ _ _ (heap_items c.loop-first.queue) c.in-Some.first c.in-Some.ensures.some (c.is_out.ensures.out c.if-is_out.true) c.loop-first.invariant.1;
}

pub returns : goal.returns
returns c = record {
  heap = c.loop-first.invariant.0;
  waiting = c.loop-first.invariant.1;
  nearest = none_nearest _ _ _ _ (heap_items c.loop-first.queue) c.in_default.ensures.none c.loop-first.invariant.1;
}
