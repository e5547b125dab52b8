use Rattle.std.proofs.Common.{arith}
use Rattle.lane_count.proofs.MeetsLemmas.{meets_answer}
use Rattle.lane_count.proofs.meeting.meets_in.Goals as goal

pub returns : goal.returns
returns c = meets_answer c.args.a c.args.b 8 c.args.lo c.args.hi c.ranges.a c.ranges.b c.requires.low_fits c.requires.high_fits (omega arith) (omega arith) (omega arith)
