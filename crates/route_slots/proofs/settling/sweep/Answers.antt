use Rattle.route_slots.proofs.Stepping.{more_steps, all_steps}
use Rattle.route_slots.proofs.settling.sweep.Goals as goal

pub slots-preserved : goal.slots-preserved
slots-preserved c =
    let step = c.in_ok-stepped in
    more_steps c.args.nets.now c.args.count c.slots.slot c.args.routes.items c.slots.routes.items step.stepped.routes.items c.slots.changed step.stepped.changed c.either-changed.result c.slots.auto.slot
    c.slots.invariant step.ensures c.either-changed.ensures.yes c.either-changed.ensures.no

pub returns : goal.returns
returns c = all_steps c.args.nets.now c.args.count c.slots.slot c.args.routes.items c.slots.routes.items c.slots.changed c.slots-test.false c.slots.invariant
