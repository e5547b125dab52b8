use Rattle.std.proofs.Common.{◌≡◌, ◌∷◌, ◌++◌, map, drop}
use Rattle.route_lines.specs.Waypoints.{points_in}
use Rattle.route_lines.specs.Points.{plain_gap, points_on, step_points}
use Rattle.route_lines.proofs.joining.points_of.Given as goal

abbrev pub invariant-steps : goal.invariant-steps
invariant-steps l =
    points_in l.points.items ++ points_on (map plain_gap l.gaps) l.trace.end l.height (drop l.number l.steps)
    ≡ l.trace.start ∷ step_points (map plain_gap l.gaps) l.trace.start l.steps l.trace.end
