use Rattle.std.proofs.Common.{◌≡◌, drop}
use Rattle.working_frame.specs.Walk.{reach_over}
use Rattle.working_frame.proofs.spanning.over_points.Given as goal

abbrev pub invariant-loop-point : goal.invariant-loop-point
invariant-loop-point l = reach_over l.found (drop l.point-index l.points) ≡ reach_over l.initial.found l.points
