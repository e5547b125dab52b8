use Rattle.std.proofs.Common.{◌≡◌, false, rules}
use Rattle.route_slots.proofs.settling.settle.Goals as goal

pub returns-then-not-swept-clause-none : goal.returns-then-not-swept-clause-none
returns-then-not-swept-clause-none c =
    let none : c.in_ok-swept.swept.changed ≡ false = search rules in
    λ few s inside. c.in_ok-swept.ensures.none none s inside
