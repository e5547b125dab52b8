use Rattle.std.proofs.Common.{rules, below_more, IsTrue}
use Rattle.layout_check.specs.FirstInside.{PointsHold}
use Rattle.layout_check.proofs.inside.first_route.Goals as goal

pub loop-edge-preserved : goal.loop-edge-preserved
loop-edge-preserved c =
    let t : IsTrue c.points_hold.result = search rules in
    below_more (PointsHold c.args.scene.now.doc.now c.args.scene.now.placed.now c.args.node c.args.options.now) _ c.loop-edge.invariant (c.points_hold.ensures.0 t)
