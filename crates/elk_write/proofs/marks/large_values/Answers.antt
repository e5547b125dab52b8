use Rattle.elk_write.proofs.Lists.{wholes_next}
use Rattle.elk_write.proofs.marks.large_values.Goals as goal

pub loop-number-preserved : goal.loop-number-preserved
loop-number-preserved c =
    wholes_next c.args.numbers.now c.loop-number.number-index c.loop-number.values.items c.push.new.self.items c.from.result
    c.loop-number-test.true c.loop-number.invariant c.in_ok-push.ensures.items c.from.ensures
