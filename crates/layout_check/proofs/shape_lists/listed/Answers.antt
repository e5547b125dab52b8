use Rattle.layout_check.proofs.ListLaws.{Lists-push}
use Rattle.layout_check.proofs.shape_lists.listed.Goals as goal

pub loop-edge-preserved : goal.loop-edge-preserved
loop-edge-preserved c =
    Lists-push _ c.loop-edge.edge c.loop-edge.listed.items _ _ c.loop-edge.invariant c.is_listed.ensures c.in_ok-push.ensures.items
