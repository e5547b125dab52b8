use Rattle.std.proofs.Common.{◌∙◌, arith, refl}
use Rattle.working_frame.specs.Moved as spec
use Rattle.working_frame.specs.Ranges.{IsFarRoute}
use Rattle.working_frame.proofs.MapLemmas.{change_next, not_yet, all_changed}
use Rattle.working_frame.proofs.moving.move_routes.Goals as goal

pub loop-i-init : goal.loop-i-init
loop-i-init c = refl

pub moved_route-requires-clause-route : goal.moved_route-requires-clause-route
moved_route-requires-clause-route c =
    let test = c.loop-i-test.true in
    let long = c.loop-i.auto.routes in
    not_yet IsFarRoute (spec.moved_route c.args.by.y) c.args.routes.now c.loop-i.routes c.loop-i.i _ c.requires.routes c.loop-i.invariant (omega (arith, test, long))

pub loop-i-preserved : goal.loop-i-preserved
loop-i-preserved c =
    let test = c.loop-i-test.true in
    let long = c.loop-i.auto.routes in
    change_next (spec.moved_route c.args.by.y) c.args.routes.now c.loop-i.routes c.loop-i.i _ c.moved_route.result c.loop-i.invariant (omega (arith, test, long)) c.moved_route.ensures

pub returns : goal.returns
returns c =
    let test = c.loop-i-test.false in
    let end = c.loop-i.auto.i-end in
    c.loop-i.invariant ∙ all_changed (spec.moved_route c.args.by.y) c.args.routes.now c.loop-i.i (omega (arith, test, end))
