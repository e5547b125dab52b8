use Rattle.layout_check.specs.Bounds.{AreRouteBoundsBelow}
use Rattle.layout_check.proofs.bounds.route_bounds.Given as goal

abbrev pub invariant-loop-edge : goal.invariant-loop-edge
invariant-loop-edge l = AreRouteBoundsBelow l.placed l.edge l.bounds.items
