use Rattle.std.proofs.Common.{◌∙◌, arith, refl}
use Rattle.working_frame.specs.Moved as spec
use Rattle.working_frame.specs.Ranges.{IsFarStep}
use Rattle.working_frame.proofs.MapLemmas.{change_next, not_yet, all_changed}
use Rattle.working_frame.proofs.moving.move_steps.Goals as goal

pub loop-i-init : goal.loop-i-init
loop-i-init c = refl

pub moved_step-requires-clause-step : goal.moved_step-requires-clause-step
moved_step-requires-clause-step c =
    let test = c.loop-i-test.true in
    let long = c.loop-i.auto.steps in
    not_yet IsFarStep (spec.moved_step c.args.by.y) c.args.steps.now c.loop-i.steps c.loop-i.i _ c.requires.steps c.loop-i.invariant (omega (arith, test, long))

pub loop-i-preserved : goal.loop-i-preserved
loop-i-preserved c =
    let test = c.loop-i-test.true in
    let long = c.loop-i.auto.steps in
    change_next (spec.moved_step c.args.by.y) c.args.steps.now c.loop-i.steps c.loop-i.i _ c.moved_step.result c.loop-i.invariant (omega (arith, test, long)) c.moved_step.ensures

pub returns : goal.returns
returns c =
    let test = c.loop-i-test.false in
    let end = c.loop-i.auto.i-end in
    c.loop-i.invariant ∙ all_changed (spec.moved_step c.args.by.y) c.args.steps.now c.loop-i.i (omega (arith, test, end))
