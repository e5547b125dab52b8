use Rattle.std.proofs.Common.{◌∙◌, arith, refl}
use Rattle.working_frame.specs.Moved as spec
use Rattle.working_frame.specs.Ranges.{IsFarNet}
use Rattle.working_frame.proofs.MapLemmas.{change_next, not_yet, all_changed}
use Rattle.working_frame.proofs.moving.move_nets.Goals as goal

pub loop-i-init : goal.loop-i-init
loop-i-init c = refl

pub moved_net-requires-clause-net : goal.moved_net-requires-clause-net
moved_net-requires-clause-net c =
    let test = c.loop-i-test.true in
    let long = c.loop-i.auto.nets in
    not_yet IsFarNet (spec.moved_net c.args.by.y) c.args.nets.now c.loop-i.nets c.loop-i.i _ c.requires.nets c.loop-i.invariant (omega (arith, test, long))

pub loop-i-preserved : goal.loop-i-preserved
loop-i-preserved c =
    let test = c.loop-i-test.true in
    let long = c.loop-i.auto.nets in
    change_next (spec.moved_net c.args.by.y) c.args.nets.now c.loop-i.nets c.loop-i.i _ c.moved_net.result c.loop-i.invariant (omega (arith, test, long)) c.moved_net.ensures

pub returns : goal.returns
returns c =
    let test = c.loop-i-test.false in
    let end = c.loop-i.auto.i-end in
    c.loop-i.invariant ∙ all_changed (spec.moved_net c.args.by.y) c.args.nets.now c.loop-i.i (omega (arith, test, end))
