use Rattle.cross_reduce.specs.Held.{is_held}
use Rattle.cross_reduce.specs.HeldRows.{numbers_of}
use Rattle.cross_reduce.proofs.MeanLemmas.{refills_next}
use Rattle.cross_reduce.proofs.holding.refill.Goals as goal

pub loop-unit-preserved : goal.loop-unit-preserved
loop-unit-preserved c =
    rw (c.in_ok-push.ensures.items, c.next_unit-next.ensures.unit, c.next_unit-next.ensures.taken)
    (refills_next (is_held c.args.held.now) c.args.row.now (numbers_of c.args.from.now) c.loop-unit.list.items c.loop-unit.unit-index c.loop-unit.taken c.is_held.result c.loop-unit-test.true c.is_held.ensures c.loop-unit.invariant)
