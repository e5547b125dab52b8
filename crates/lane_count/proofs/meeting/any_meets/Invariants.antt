use Rattle.std.proofs.Common.{◌*◌}
use Rattle.lane_count.specs.Meets.{NoneMeets}
use Rattle.lane_count.proofs.meeting.any_meets.Given as goal

abbrev pub invariant-loop-k : goal.invariant-loop-k
invariant-loop-k l = NoneMeets l.lo l.hi l.a l.b (l.k * 8)
