use Rattle.layout_check.proofs.ListLaws.{Lists-push}
use Rattle.layout_check.proofs.shape_lists.sides.Goals as goal

pub loop-port-preserved : goal.loop-port-preserved
loop-port-preserved c =
    Lists-push _ c.loop-port.port c.loop-port.sides.items _ _ c.loop-port.invariant c.side_by-side.ensures c.in_ok-push.ensures.items
