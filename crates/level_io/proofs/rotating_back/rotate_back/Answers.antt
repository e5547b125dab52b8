use Rattle.std.proofs.Common.{◌∙◌, arith, refl}
use Rattle.working_frame.specs.Ranges.{IsFarPoint}
use Rattle.working_frame.proofs.MapLemmas.{change_next, not_yet, all_changed}
use Rattle.level_io.specs.Back as back
use Rattle.level_io.proofs.rotating_back.rotate_back.Goals as goal

pub loop-i-init : goal.loop-i-init
loop-i-init c = refl

pub point_back-requires-clause-point : goal.point_back-requires-clause-point
point_back-requires-clause-point c =
    let test = c.loop-i-test.true in
    let long = c.loop-i.auto.points in
    not_yet IsFarPoint (back.moved_back c.args.way c.args.by) c.args.points.now c.loop-i.points c.loop-i.i _ c.requires.points c.loop-i.invariant (omega (arith, test, long))

pub loop-i-preserved : goal.loop-i-preserved
loop-i-preserved c =
    let test = c.loop-i-test.true in
    let long = c.loop-i.auto.points in
    change_next (back.moved_back c.args.way c.args.by) c.args.points.now c.loop-i.points c.loop-i.i _ c.point_back.result c.loop-i.invariant (omega (arith, test, long)) c.point_back.ensures

pub returns : goal.returns
returns c =
    let test = c.loop-i-test.false in
    let end = c.loop-i.auto.i-end in
    c.loop-i.invariant ∙ all_changed (back.moved_back c.args.way c.args.by) c.args.points.now c.loop-i.i (omega (arith, test, end))
