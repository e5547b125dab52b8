use Rattle.ns_place.proofs.WritingLemmas.{writes_start, writes_more}
use Rattle.ns_place.proofs.flows.write_flows.Goals as goal

pub loop-i-init : goal.loop-i-init
loop-i-init c = writes_start c.args.flow.now c.args.first c.args.pairs.now

pub loop-i-preserved : goal.loop-i-preserved
loop-i-preserved c = writes_more c.args.flow.now c.args.first c.args.pairs.now c.loop-i.i c.loop-i.pairs c.loop-i-test.true c.loop-i.invariant
