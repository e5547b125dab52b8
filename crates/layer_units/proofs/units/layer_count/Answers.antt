use Rattle.layer_units.proofs.GrowingLemmas.{count_none, count_more}
use Rattle.layer_units.proofs.units.layer_count.Goals as goal

pub loop-child-init : goal.loop-child-init
loop-child-init c = count_none c.args.layers.now

pub loop-child-preserved : goal.loop-child-preserved
loop-child-preserved c = count_more c.args.layers.now c.loop-child.child c.loop-child.count c.raised-count.result c.raised-count.ensures.kept c.raised-count.ensures.above c.raised-count.ensures.least c.loop-child.invariant
