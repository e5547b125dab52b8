use Rattle.std.proofs.Common.{◌+◌, arith, refl}
use Rattle.elk_layers.proofs.FillLemmas.{push_more}
use Rattle.bk_place.specs.Marks.{IsHighest}
use Rattle.bk_place.proofs.ReachLemmas.{highest_start, highest_more}
use Rattle.bk_place.proofs.reaching.running_highest.Goals as goal

pub loop-pin-init : goal.loop-pin-init
loop-pin-init c =
    let start = highest_start c.args.pins.now in
    let pushed = push_more (λ count top. IsHighest c.args.pins.now count top) c.in_ok-highest.highest.items 0 0 0 (rw c.in_ok-highest.ensures.items refl) (λ u h. absurd (omega (arith, h))) start in
    rw c.in_ok-push.ensures.items (pushed.0, start, pushed.1)

pub loop-pin-preserved : goal.loop-pin-preserved
loop-pin-preserved c =
    let top = highest_more c.args.pins.now c.loop-pin.pin-index c.loop-pin.top c.greater-top.result c.loop-pin.invariant.1 c.greater-top.ensures.first c.greater-top.ensures.second c.greater-top.ensures.one in
    let pushed = push_more (λ count top. IsHighest c.args.pins.now count top) c.loop-pin.highest.items (c.loop-pin.pin-index + 1) c.greater-top.result 0 c.loop-pin.invariant.0 c.loop-pin.invariant.2 top in
    rw c.in_ok-push-2.ensures.items (pushed.0, top, pushed.1)

pub returns-clause-long : goal.returns-clause-long
returns-clause-long c =
    let a = c.loop-pin-test.false in
    let b = c.loop-pin.auto.pin-index-end in
    let n = c.loop-pin.invariant.0 in
    omega (arith, a, b, n)

pub returns-clause-highest : goal.returns-clause-highest
returns-clause-highest c = λ count h. c.loop-pin.invariant.2 count (let n = c.loop-pin.invariant.0 in omega (arith, h, n))
