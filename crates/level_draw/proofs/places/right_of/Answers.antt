use Rattle.std.proofs.Common.{arith}
use Rattle.std.proofs.lemmas.Int.{ints}
use Rattle.level_draw.proofs.RangeLemmas.{right_in}
use Rattle.level_draw.proofs.places.right_of.Goals as goal

pub returns-clause-range : goal.returns-clause-range
returns-clause-range c =
    let within = right_in c.args.gaps.now c.args.gap c.index-gaps-gap.result c.requires.gap c.requires.gaps in
    let low = within.0 in
    let high = within.1 in
    (omega (arith, ints, low), omega (arith, ints, high))
