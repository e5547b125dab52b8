use Rattle.std.proofs.Common.{arith}
use Rattle.cross_reduce.proofs.WindowLemmas.{count_none}
use Rattle.cross_reduce.proofs.counting.count_over.Goals as goal

pub returns-then-highest-key : goal.returns-then-highest-key
returns-then-highest-key c = let low = c.if-highest-key.true in count_none c.args.heads.now c.args.key c.args.highest (omega (arith, low)) c.requires
