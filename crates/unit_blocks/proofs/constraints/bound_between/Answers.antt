use Rattle.std.proofs.Common.{arith}
use Rattle.std.proofs.lemmas.Int.{ints}
use Rattle.unit_blocks.proofs.constraints.bound_between.Goals as goal

pub overflow_sub-result : goal.overflow_sub-result
overflow_sub-result c =
    let a = c.requires.small c.args.upper in
    let b = c.requires.small c.args.lower in
    omega (arith, ints, a.low, a.high, b.low, b.high, c.requires.low, c.requires.high)

pub returns-clause-gap : goal.returns-clause-gap
returns-clause-gap c =
    let a = c.requires.small c.args.upper in
    let b = c.requires.small c.args.lower in
    omega (arith, ints, a.low, a.high, b.low, b.high, c.requires.low, c.requires.high)
