use Rattle.std.proofs.Common.{ℕ, ◌<◌}
use Rattle.layout_check.specs.FirstRoutes.{RouteHolds}
use Rattle.layout_check.proofs.route.first_route.Given as goal

abbrev pub invariant-loop-edge : goal.invariant-loop-edge
invariant-loop-edge l = (k : ℕ) → k < l.edge → RouteHolds l.scene.doc.now l.scene.placed.now l.node k
