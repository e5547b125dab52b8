use Rattle.std.proofs.Common.{◌≡◌, true, refl, rules, subst}
use Rattle.route_slots.specs.Exchanges.{IsBetterAt}
use Rattle.net_routes.specs.Exchanges.{AreExchanged}
use Rattle.route_slots.proofs.Stepping.{made_step}
use Rattle.route_slots.proofs.settling.step.Goals as goal

pub returns : goal.returns
returns c =
    let nets = c.args.nets.now in
    let s = c.args.slot in
    let old = c.args.routes.items in
    let yes : c.improves.result ≡ true = search rules in
    made_step nets c.args.count s old c.in_ok-others.others.items true refl c.requires.slot c.requires.laid
    (subst (λ rs. IsBetterAt nets rs s) c.as_slice.ensures.value (c.improves.ensures.better yes))
    (subst (λ rs. AreExchanged s rs c.in_ok-others.others.items) c.as_slice-2.ensures.value c.in_ok-others.ensures)
