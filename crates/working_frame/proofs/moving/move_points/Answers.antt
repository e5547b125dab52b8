use Rattle.std.proofs.Common.{◌∙◌, arith, refl}
use Rattle.working_frame.specs.Moved as spec
use Rattle.working_frame.specs.Ranges.{IsFarPoint}
use Rattle.working_frame.proofs.MapLemmas.{change_next, not_yet, all_changed}
use Rattle.working_frame.proofs.moving.move_points.Goals as goal

pub loop-i-init : goal.loop-i-init
loop-i-init c = refl

pub moved_point-requires-clause-point : goal.moved_point-requires-clause-point
moved_point-requires-clause-point c =
    let test = c.loop-i-test.true in
    let long = c.loop-i.auto.points in
    not_yet IsFarPoint (spec.moved_point c.args.by.x c.args.by.y) c.args.points.now c.loop-i.points c.loop-i.i _ c.requires.points c.loop-i.invariant (omega (arith, test, long))

pub loop-i-preserved : goal.loop-i-preserved
loop-i-preserved c =
    let test = c.loop-i-test.true in
    let long = c.loop-i.auto.points in
    change_next (spec.moved_point c.args.by.x c.args.by.y) c.args.points.now c.loop-i.points c.loop-i.i _ c.moved_point.result c.loop-i.invariant (omega (arith, test, long)) c.moved_point.ensures

pub returns : goal.returns
returns c =
    let test = c.loop-i-test.false in
    let end = c.loop-i.auto.i-end in
    c.loop-i.invariant ∙ all_changed (spec.moved_point c.args.by.x c.args.by.y) c.args.points.now c.loop-i.i (omega (arith, test, end))
