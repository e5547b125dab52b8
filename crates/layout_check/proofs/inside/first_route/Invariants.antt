use Rattle.std.proofs.Common.{ℕ, ◌<◌}
use Rattle.layout_check.specs.FirstInside.{PointsHold}
use Rattle.layout_check.proofs.inside.first_route.Given as goal

abbrev pub invariant-loop-edge : goal.invariant-loop-edge
invariant-loop-edge l = (k : ℕ) → k < l.edge → PointsHold l.scene.doc.now l.scene.placed.now l.node l.options k
