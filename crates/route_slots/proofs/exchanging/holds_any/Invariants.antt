use Rattle.std.proofs.Common.{◌≡◌, ◌<◌, ℕ, false}
use Rattle.route_slots.specs.Exchanges.{holds_back}
use Rattle.route_slots.proofs.exchanging.holds_any.Given as goal

abbrev pub invariant-nets : goal.invariant-nets
invariant-nets l = (k : ℕ) → k < l.k → holds_back l.nets l.routes l.slot l.j k ≡ false
