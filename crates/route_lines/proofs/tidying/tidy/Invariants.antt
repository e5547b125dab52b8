use Rattle.std.proofs.Common.{◌<◌, drop, length}
use Rattle.route_lines.specs.Tidied.{IsTidied}
use Rattle.route_lines.specs.Path.{points_along}
use Rattle.route_lines.proofs.tidying.tidy.Given as goal

abbrev pub invariant-points : goal.invariant-points
invariant-points l = record { in_list : l.index < length l.points; tidied : IsTidied (drop l.index l.points) (points_along l.path) }

abbrev pub decreases-points : goal.decreases-points
decreases-points l = l.index
