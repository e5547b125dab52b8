use Rattle.std.proofs.Common.{[], ◌∷◌}
use Rattle.elk_engine.specs.DemoDocument.{demo_root, demo_leaf}
use Rattle.elk_engine.proofs.GrownLists.{grown}
use Rattle.elk_engine.proofs.making.node_list.Goals as goal

pub loop-number-preserved : goal.loop-number-preserved
loop-number-preserved c =
    grown demo_leaf (demo_root ∷ []) c.loop-number.list.items c.push-in-loop-number.new.self.items 1 c.loop-number.number c.leaf_node.result c.loop-number.auto.number c.loop-number.invariant c.leaf_node.ensures c.in_ok-push-2.ensures.items
