use Rattle.std.proofs.Common.{◌≡◌, ⊎_elim, sym, subst}
use Rattle.net_routes.specs.declared.Slots.{Slots}
use Rattle.route_slots.specs.Exchanges.{AreSettled}
use Rattle.route_slots.proofs.untangling.settled.Goals as goal

pub returns-in_ok-settled-in-Some : goal.returns-in_ok-settled-in-Some
returns-in_ok-settled-in-Some c =
    let all = c.in_ok-fewest.ensures in
    let then = c.in_ok-settled-in-Some.ensures in
    ⊎_elim
    (λ (e : c.less_crossed.result ≡ c.in_ok-fewest.fewest). subst (λ (s : Slots). AreSettled c.args.nets.now s.count s.routes.items) (sym e)
    (record { laid = record { free = all.free; apart = all.apart; splits = all.splits }; none = all.exchanges }))
    (λ (e : c.less_crossed.result ≡ c.in_ok-settled-in-Some.settled). subst (λ (s : Slots). AreSettled c.args.nets.now s.count s.routes.items) (sym e)
    (record { laid = then.laid; none = then.none }))
    c.less_crossed.ensures.which
