use Rattle.std.proofs.Common.{◌≡◌, take}
use Rattle.level_split.proofs.drawing.copied.Given as goal

abbrev pub invariant-loop-point : goal.invariant-loop-point
invariant-loop-point l = l.found.items ≡ take l.point-index l.points
