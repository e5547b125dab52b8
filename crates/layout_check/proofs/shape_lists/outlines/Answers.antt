use Rattle.layout_check.proofs.ListLaws.{Lists-push}
use Rattle.layout_check.proofs.shape_lists.outlines.Goals as goal

pub loop-node-preserved : goal.loop-node-preserved
loop-node-preserved c =
    Lists-push _ c.loop-node.node c.loop-node.rects.items _ _ c.loop-node.invariant c.outline.ensures.value c.in_ok-push.ensures.items
