use Rattle.std.proofs.Common.{◌≡◌, map, take}
use Rattle.working_frame.specs.Drawing.{plus}
use Rattle.level_split.proofs.drawing.moved_points.Given as goal

abbrev pub invariant-loop-point : goal.invariant-loop-point
invariant-loop-point l = l.found.items ≡ map (plus l.by) (take l.point-index l.points)
