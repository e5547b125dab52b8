use Rattle.std.proofs.Common.{◌≡◌, map}
use Rattle.route_lines.specs.Points.{plain_gap}
use Rattle.working_frame.specs.Moved as spec
use Rattle.working_frame.proofs.MapLemmas.{changed}
use Rattle.working_frame.proofs.moving.move_gaps.Given as goal

abbrev pub invariant-loop-i : goal.invariant-loop-i
invariant-loop-i l = map plain_gap l.gaps ≡ changed (spec.moved_gap l.by.x l.by.y) (map plain_gap l.initial.gaps) l.i
