use Rattle.std.proofs.Common.{rules, ◌≡◌, false}
use Rattle.route_slots.proofs.Blocking.{idle}
use Rattle.route_slots.proofs.exchanging.holds_any.Goals as goal

pub returns-then-not-stands-clause-none : goal.returns-then-not-stands-clause-none
returns-then-not-stands-clause-none c =
    let none : c.stands.result ≡ false = search rules in
    let apart = c.stands.ensures none in
    λ e k l. idle c.args.nets.now c.args.routes.now c.args.slot c.args.j k apart.0 apart.1
