use Rattle.std.proofs.Common.{arith}
use Rattle.layout_check.proofs.ListedLaws.{rising_never}
use Rattle.layout_check.proofs.reversed.are_rising.Goals as goal

pub returns : goal.returns
returns c = λ _. rising_never c.args.steps.now c.args.heights.now (λ i l. c.loop-step.invariant i (omega arith))
