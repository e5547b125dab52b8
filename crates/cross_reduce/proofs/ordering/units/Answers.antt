use Rattle.cross_reduce.specs.declared.ordering.Keyed.{Keyed}
use Rattle.cross_reduce.proofs.ListLemmas.{mapped_more, mapped_all}
use Rattle.cross_reduce.proofs.ordering.units.Goals as goal

pub loop-keyed-preserved : goal.loop-keyed-preserved
loop-keyed-preserved c = mapped_more (λ (k : Keyed). k.unit) c.args.list.now c.loop-keyed.keyed-index (record { unit = 0; key = 0 }) c.loop-keyed.row.items c.push.new.self.items c.loop-keyed-test.true c.loop-keyed.invariant c.in_ok-push.ensures.items

pub returns : goal.returns
returns c = mapped_all (λ (k : Keyed). k.unit) c.args.list.now c.loop-keyed.keyed-index c.loop-keyed.row.items c.loop-keyed-test.false c.loop-keyed.invariant
