use Rattle.std.proofs.Common.{arith}
use Rattle.cross_reduce.proofs.WindowLemmas.{ends_from}
use Rattle.cross_reduce.proofs.counting.begin_again.Goals as goal

pub returns-clause-highest : goal.returns-clause-highest
returns-clause-highest c =
    let long = c.requires.heads in
    let pin = c.requires.pin in
    ends_from c.args.heads.now c.begin_before-count.result c.args.i c.highest.result (omega (arith, long, pin)) c.highest.ensures
