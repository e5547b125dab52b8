use Rattle.std.proofs.Common.{zero-le}
use Rattle.cross_reduce.proofs.WindowLemmas.{ends_more}
use Rattle.cross_reduce.proofs.counting.highest.Goals as goal

pub loop-head-preserved : goal.loop-head-preserved
loop-head-preserved c = λ j h.
    ends_more c.args.heads.now 0 c.loop-head.head-index c.loop-head.top c.greater-top.result c.greater-top.ensures.first c.greater-top.ensures.second (λ k low less. c.loop-head.invariant k less) j zero-le h
