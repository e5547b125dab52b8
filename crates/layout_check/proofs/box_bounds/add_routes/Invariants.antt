use Rattle.std.proofs.Common.{ℕ, ◌<◌}
use Rattle.layout_check.specs.BoxBounds.{Keeps, RouteHeld}
use Rattle.layout_check.specs.Levels.{at_level}
use Rattle.layout_check.proofs.box_bounds.add_routes.Given as goal

abbrev pub invariant-loop-edge : goal.invariant-loop-edge
invariant-loop-edge l =
    record {
      kept : Keeps l.level.options.now l.fn.bounds l.bounds;
      held : (k : ℕ) → k < l.edge → at_level RouteHeld l.level l.bounds k;
    }
