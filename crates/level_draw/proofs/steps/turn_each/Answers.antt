use Rattle.std.proofs.Common.{◌∙◌, arith, refl}
use Rattle.level_model.specs.Traces.{reversed_step}
use Rattle.working_frame.proofs.MapLemmas.{change_next, all_changed}
use Rattle.level_draw.proofs.steps.turn_each.Goals as goal

pub loop-i-init : goal.loop-i-init
loop-i-init c = refl

pub loop-i-preserved : goal.loop-i-preserved
loop-i-preserved c =
    let test = c.loop-i-test.true in
    let long = c.loop-i.auto.steps in
    change_next reversed_step c.args.steps.now c.loop-i.steps c.loop-i.i _ c.reversed_step.result c.loop-i.invariant (omega (arith, test, long)) c.reversed_step.ensures

pub returns : goal.returns
returns c =
    let test = c.loop-i-test.false in
    let end = c.loop-i.auto.i-end in
    c.loop-i.invariant ∙ all_changed reversed_step c.args.steps.now c.loop-i.i (omega (arith, test, end))
