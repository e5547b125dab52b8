use Rattle.std.proofs.Common.{arith}
use Rattle.bk_place.proofs.SpokeLemmas.{first_found, before_more, none}
use Rattle.bk_place.proofs.spokes.first_from.Goals as goal

pub returns-then-spokes-at : goal.returns-then-spokes-at
returns-then-spokes-at c = first_found c.args.spokes.now c.args.unit c.loop-at.at none c.requires.sorted c.loop-at-test.true c.loop-at.invariant c.if-spokes-at.true

pub loop-at-preserved : goal.loop-at-preserved
loop-at-preserved c = before_more c.args.spokes.now c.args.unit c.loop-at.at none c.loop-at-test.true c.loop-at.invariant c.if-spokes-at.false

pub returns : goal.returns
returns c =
    let all = c.loop-at-test.false in
    let end = c.loop-at.auto.at-end c.requires.bound in
    record { bound = omega arith; before = λ j d h. c.loop-at.invariant j d (omega (arith, h, all, end)); behind = λ j d from l. absurd (omega (arith, from, l)) }
