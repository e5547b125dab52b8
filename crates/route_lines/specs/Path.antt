-- The points of a path, of which those behind the first are held from the last to the second.
use Rattle.std.specs.Prelude.{List, ◌∷◌, reverse}
use Rattle.drawing_types.specs.declared.shape.Point.{Point}
use Rattle.route_lines.specs.declared.tidying.Path.{Path}

abbrev pub points_along : Path → List Point
points_along p = p.head ∷ reverse p.behind.items
