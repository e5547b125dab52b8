use Rattle.std.proofs.Common.{rules}
use Rattle.separation.proofs.ReadyLemmas.{ready}
use Rattle.separation.proofs.walk.least_lines.Goals as goal

pub settle-requires-clause-ready : goal.settle-requires-clause-ready
settle-requires-clause-ready c =
    rw (c.as_mut_slice.ensures.value, c.in_ok-value.ensures.items, c.as_slice-4.ensures.value, c.as_slice-5.ensures.value, c.as_slice-6.ensures.value)
    (ready c.args.c.now.order.items c.in_ok-position.position.items _ _ _ c.requires (search rules) (rw (c.as_slice-2.ensures.value, c.as_slice-3.ensures.value) at c.in_ok-due.ensures))
