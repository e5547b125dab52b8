use Rattle.std.proofs.Common.{rules, below_more, IsTrue}
use Rattle.layout_check.specs.FirstRoutes.{RouteHolds}
use Rattle.layout_check.proofs.route.first_route.Goals as goal

pub loop-edge-preserved : goal.loop-edge-preserved
loop-edge-preserved c =
    let t : IsTrue c.route_holds.result = search rules in
    below_more (RouteHolds c.args.scene.now.doc.now c.args.scene.now.placed.now c.args.node) _ c.loop-edge.invariant (c.route_holds.ensures.0 t)
