use Rattle.std.proofs.Common.{◌≡◌, ℕ, ◌+◌, ◌<◌, length, get_or}
use Rattle.net_routes.specs.Pieces.{route_at}
use Rattle.route_slots.specs.Marks.{mark_at, height_of, route_by}
use Rattle.route_slots.proofs.assigning.routes_of.Given as goal

abbrev pub invariant-nets : goal.invariant-nets
invariant-nets l =
    record {
      len : length l.routes.items ≡ l.number;
      each : (k : ℕ) → k < l.number → route_at l.routes.items k ≡ route_by (mark_at l.marks k) (get_or l.slots (k + k) 0) (height_of l.middles k) (get_or l.slots (k + k + 1) 0);
    }
