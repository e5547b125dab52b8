use Rattle.std.proofs.Common.{◌≡◌, ℕ, ◌<◌, length}
use Rattle.net_routes.specs.Pieces.{route_at}
use Rattle.net_routes.specs.Exchanges.{exchanged}
use Rattle.route_slots.proofs.exchanging.exchange.Given as goal

abbrev pub invariant-routes : goal.invariant-routes
invariant-routes l =
    record {
      len : length l.others.items ≡ l.route-index;
      each : (k : ℕ) → k < l.route-index → route_at l.others.items k ≡ exchanged l.slot (route_at l.routes k);
    }
