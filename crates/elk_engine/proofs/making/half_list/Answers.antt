use Rattle.std.proofs.Common.{[]}
use Rattle.elk_engine.specs.DemoDocument.{half_edge}
use Rattle.elk_engine.proofs.GrownLists.{grown}
use Rattle.elk_engine.proofs.making.half_list.Goals as goal

pub loop-number-preserved : goal.loop-number-preserved
loop-number-preserved c =
    grown half_edge [] c.loop-number.edges.items c.push.new.self.items 2 c.loop-number.number c.edge_to.result c.loop-number.auto.number c.loop-number.invariant c.edge_to.ensures c.in_ok-push.ensures.items
