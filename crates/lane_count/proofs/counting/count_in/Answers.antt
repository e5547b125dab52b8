use Rattle.std.proofs.Common.{arith}
use Rattle.lane_count.proofs.Lanes.{count_lanes}
use Rattle.lane_count.proofs.counting.count_in.Goals as goal

pub returns : goal.returns
returns c = count_lanes c.args.block c.args.bound (omega arith)
