use Rattle.std.proofs.Common.{◌≡◌, ◌<◌, ℕ, false, length}
use Rattle.route_slots.specs.Exchanges.{holds_back}
use Rattle.route_slots.proofs.exchanging.is_blocked.Given as goal

abbrev pub invariant-nets : goal.invariant-nets
invariant-nets l = (j k : ℕ) → j < l.j → k < length l.nets → holds_back l.nets l.routes l.slot j k ≡ false
