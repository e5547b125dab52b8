-- The points of a trace as they are gathered.
use Rattle.std.specs.Prelude.{List, map}
use Rattle.drawing_types.specs.declared.shape.Point.{Point}
use Rattle.route_lines.specs.declared.joining.Waypoint.{Waypoint}

abbrev pub waypoint_at : Waypoint → Point
waypoint_at w = record { x = w.x; y = w.y }

abbrev pub points_in : List Waypoint → List Point
points_in ws = map waypoint_at ws
