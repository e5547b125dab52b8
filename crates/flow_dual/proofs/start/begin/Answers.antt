use Rattle.std.proofs.Common.{arith}
use Rattle.std.proofs.lemmas.Int.{ints}
use Rattle.flow_dual.proofs.Starting.{begun_start, begun_more}
use Rattle.flow_dual.proofs.start.begin.Goals as goal

pub loop-k-init : goal.loop-k-init
loop-k-init c = begun_start c.args.edges.now c.args.layer.now c.args.flow.now c.args.excess.now c.requires.as_many c.requires.flow c.requires.no_flow c.requires.none

pub begin_edge-requires-clause-low : goal.begin_edge-requires-clause-low
begin_edge-requires-clause-low c = λ v l. let a = c.loop-k.invariant.low v in let i = c.loop-k-test.true in let m = c.requires.few in omega (arith, ints, a, i, m)

pub begin_edge-requires-clause-high : goal.begin_edge-requires-clause-high
begin_edge-requires-clause-high c = λ v l. let a = c.loop-k.invariant.high v in let i = c.loop-k-test.true in let m = c.requires.few in omega (arith, ints, a, i, m)

pub loop-k-preserved : goal.loop-k-preserved
loop-k-preserved c =
    begun_more c.args.edges.now c.args.layer.now c.loop-k.k c.loop-k.flow c.begin_edge.new.flow c.loop-k.excess c.begin_edge.new.excess c.loop-k-test.true c.begin_edge.ensures.small c.loop-k.invariant c.begin_edge.ensures.begins
