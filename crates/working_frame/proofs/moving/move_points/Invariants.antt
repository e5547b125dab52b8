use Rattle.std.proofs.Common.{◌≡◌}
use Rattle.working_frame.specs.Moved as spec
use Rattle.working_frame.proofs.MapLemmas.{changed}
use Rattle.working_frame.proofs.moving.move_points.Given as goal

abbrev pub invariant-loop-i : goal.invariant-loop-i
invariant-loop-i l = l.points ≡ changed (spec.moved_point l.by.x l.by.y) l.initial.points l.i
