use Rattle.cross_reduce.specs.declared.counting.LinkEnd.{LinkEnd}
use Rattle.cross_reduce.proofs.ListLemmas.{mapped_more, mapped_all}
use Rattle.cross_reduce.proofs.counting.head_keys.Goals as goal

pub loop-pin-preserved : goal.loop-pin-preserved
loop-pin-preserved c = mapped_more (λ (p : LinkEnd). p.head) c.args.pins.now c.loop-pin.pin-index (record { gap = 0; tail = 0; head = 0 }) c.loop-pin.heads.items c.push.new.self.items c.loop-pin-test.true c.loop-pin.invariant c.in_ok-push.ensures.items

pub returns : goal.returns
returns c = mapped_all (λ (p : LinkEnd). p.head) c.args.pins.now c.loop-pin.pin-index c.loop-pin.heads.items c.loop-pin-test.false c.loop-pin.invariant
