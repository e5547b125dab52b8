use Rattle.lane_count.specs.Meets.{NoneMeets}
use Rattle.lane_count.proofs.meeting.meets_one_by_one.Given as goal

abbrev pub invariant-loop-i : goal.invariant-loop-i
invariant-loop-i l = NoneMeets l.lo l.hi l.a l.b l.i
