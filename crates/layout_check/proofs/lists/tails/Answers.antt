use Rattle.layout_check.proofs.ListLaws.{Lists-push}
use Rattle.layout_check.proofs.lists.tails.Goals as goal

pub loop-edge-preserved : goal.loop-edge-preserved
loop-edge-preserved c =
    Lists-push _ c.loop-edge.edge c.loop-edge.ends.items _ _ c.loop-edge.invariant c.tail_node.ensures.value c.in_ok-push.ensures.items
