use Rattle.std.proofs.Common.{◌≡◌, ⊎_elim, sym, subst}
use Rattle.net_routes.specs.declared.Slots.{Slots}
use Rattle.route_slots.specs.Exchanges.{AreSettled}
use Rattle.route_slots.proofs.untangling.or_settled.Goals as goal

pub returns-in_ok-settled-in-Some-clause-settled : goal.returns-in_ok-settled-in-Some-clause-settled
returns-in_ok-settled-in-Some-clause-settled c =
    let then = c.in_ok-settled-in-Some.ensures in
    ⊎_elim
    (λ (e : c.less_crossed.result ≡ c.in_ok-settled-in-Some.settled). subst (λ (s : Slots). AreSettled c.args.nets.now s.count s.routes.items) (sym e)
    (record { laid = then.laid; none = then.none }))
    (λ (e : c.less_crossed.result ≡ c.args.slots). subst (λ (s : Slots). AreSettled c.args.nets.now s.count s.routes.items) (sym e) c.requires.settled)
    c.less_crossed.ensures.which
