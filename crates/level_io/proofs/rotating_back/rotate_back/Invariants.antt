use Rattle.std.proofs.Common.{◌≡◌}
use Rattle.working_frame.proofs.MapLemmas.{changed}
use Rattle.level_io.specs.Back as back
use Rattle.level_io.proofs.rotating_back.rotate_back.Given as goal

abbrev pub invariant-loop-i : goal.invariant-loop-i
invariant-loop-i l = l.points ≡ changed (back.moved_back l.way l.by) l.initial.points l.i
