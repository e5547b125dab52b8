use Rattle.smallvec.specs.SmallVec.{small_vec_len}
use Rattle.route_lines.specs.Waypoints.{points_in}
use Rattle.route_lines.specs.Path.{points_along}
use Rattle.route_lines.proofs.Gathering.{IsTidiedBehind}
use Rattle.route_lines.proofs.joining.tidied.Given as goal

abbrev pub invariant-points : goal.invariant-points
invariant-points l = IsTidiedBehind (points_in l.fn.points.items) (points_in l.points.items) (points_along l.path)

abbrev pub decreases-points : goal.decreases-points
decreases-points l = small_vec_len l.points
