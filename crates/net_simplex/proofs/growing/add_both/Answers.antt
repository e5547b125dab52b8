use Rattle.net_simplex.proofs.Outgoing.{all_waiting}
use Rattle.net_simplex.proofs.growing.add_both.Goals as goal

pub add_edges-requires : goal.add_edges-requires
add_edges-requires c = record {
  few = c.requires.few;
  ends = c.requires.ends;
  links = c.requires.links.0;
  marks = c.requires.marks;
  there = c.requires.there;
  held = c.requires.held;
  heap = c.requires.queues.0.heap;
  others = c.requires.queues.0.waiting;
}

pub add_edges-requires-2 : goal.add_edges-requires-2
add_edges-requires-2 c = record {
  few = c.requires.few;
  ends = c.requires.ends;
  links = c.requires.links.1;
  marks = c.requires.marks;
  there = c.requires.there;
  held = c.requires.held;
  heap = c.requires.queues.1.heap;
  others = c.requires.queues.1.waiting;
}

pub returns : goal.returns
returns c = (
  record { heap = c.add_edges.ensures.heap; waiting = all_waiting _ _ _ _ _ _ _ c.in_ok-add_edges.ensures.all },
  record { heap = c.add_edges-2.ensures.heap; waiting = all_waiting _ _ _ _ _ _ _ c.in_ok-add_edges-2.ensures.all },
)
