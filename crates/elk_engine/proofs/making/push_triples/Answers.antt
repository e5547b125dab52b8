use Rattle.elk_engine.specs.DemoDocument.{triple_edge}
use Rattle.elk_engine.proofs.GrownLists.{grown}
use Rattle.elk_engine.proofs.making.push_triples.Goals as goal

pub loop-number-preserved : goal.loop-number-preserved
loop-number-preserved c =
    grown (triple_edge c.args.nodes) c.args.edges.now.items c.loop-number.edges.items c.push.new.self.items 1 c.loop-number.number c.edge_from.result c.loop-number.auto.number c.loop-number.invariant c.edge_from.ensures c.in_ok-push.ensures.items
