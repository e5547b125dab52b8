use Rattle.std.proofs.Common.{ap, arith, length}
use Rattle.elk_layers.proofs.FillLemmas.{push_more}
use Rattle.bk_place.specs.Spokes.{IsFirst}
use Rattle.bk_place.proofs.SpokeLemmas.{before_next}
use Rattle.bk_place.proofs.spokes.firsts_of.Goals as goal

pub loop-unit-init : goal.loop-unit-init
loop-unit-init c = (ap length c.in_ok-firsts.ensures.items, λ u h. absurd (omega (arith, h)), omega arith, λ j d h. absurd (omega (arith, h)))

pub loop-unit-preserved : goal.loop-unit-preserved
loop-unit-preserved c =
    let pushed = push_more (IsFirst c.args.spokes.now) c.loop-unit.firsts.items c.loop-unit.unit c.first_from-at.result 0 c.loop-unit.invariant.0 c.loop-unit.invariant.1 c.first_from-at.ensures in
    rw c.in_ok-push.ensures.items (pushed.0, pushed.1, c.first_from-at.ensures.bound, before_next c.args.spokes.now c.loop-unit.unit c.first_from-at.result c.first_from-at.ensures)

pub returns : goal.returns
returns c =
    let all = c.loop-unit-test.false in
    let end = c.loop-unit.auto.unit-end in
    let long = c.loop-unit.invariant.0 in
    record { as_many = omega (arith, all, end, long); first_is = λ u h. c.loop-unit.invariant.1 u (omega (arith, h, long)) }
