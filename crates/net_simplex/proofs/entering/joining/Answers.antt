use Rattle.std.proofs.Common.{w64, sym, subst}
use Rattle.std.proofs.lemmas.Int.{to_z-of_z}
use Rattle.network_laws.specs.Network.{EndsBelow}
use Rattle.net_simplex.proofs.entering.joining.Goals as goal

pub nearest-up-requires : goal.nearest-up-requires
nearest-up-requires c = record {
  ends = subst (λ m. EndsBelow m c.args.edges.now) (sym c.requires.marks) c.requires.ends;
  heap = c.requires.queues.0.heap;
  waiting = c.requires.queues.0.waiting;
}

pub nearest-down-requires : goal.nearest-down-requires
nearest-down-requires c = record {
  ends = subst (λ m. EndsBelow m c.args.edges.now) (sym c.requires.marks) c.requires.ends;
  heap = c.requires.queues.1.heap;
  waiting = c.requires.queues.1.waiting;
}

pub nearer_of_both-requires : goal.nearer_of_both-requires
nearer_of_both-requires c =
    rw (to_z-of_z w64 c.args.by c.ranges.by)
    (record {
      marks = c.requires.marks;
      ends = c.requires.ends;
      layering = c.requires.layering;
      up = c.nearest-up.ensures.nearest;
      down = c.nearest-down.ensures.nearest;
    })

pub returns : goal.returns
returns c = record {
  least = rw (to_z-of_z w64 c.args.by c.ranges.by) at c.nearer_of_both.ensures;
  queues = (
    record { heap = c.nearest-up.ensures.heap; waiting = c.nearest-up.ensures.waiting },
    record { heap = c.nearest-down.ensures.heap; waiting = c.nearest-down.ensures.waiting },
  );
}
