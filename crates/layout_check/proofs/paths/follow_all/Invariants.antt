use Rattle.std.proofs.Common.{◌≡◌, ◌+◌, ◌-◌, length, true, false, cond}
use Rattle.layout_check.specs.Steps.{AreClosed, AreReached, mark_at, marked}
use Rattle.layout_check.proofs.paths.follow_all.Given as goal

abbrev pub invariant-loop-changed : goal.invariant-loop-changed
invariant-loop-changed l =
    record {
      len : length l.marks ≡ length l.fn.marks;
      reached : AreReached l.steps l.start l.marks;
      start : mark_at l.marks l.start ≡ true;
      closed : l.changed ≡ false → AreClosed l.steps l.marks (length l.steps);
    }

abbrev pub decreases-loop-changed : goal.decreases-loop-changed
decreases-loop-changed l = (length l.marks - marked l.marks) + (length l.marks - marked l.marks) + cond l.changed 1 0
