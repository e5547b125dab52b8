use Rattle.std.proofs.Common.{ℕ, ◌<◌}
use Rattle.route_slots.specs.NetDepths.{net_depth}
use Rattle.net_routes.specs.Uncrossed.{Precedes}
use Rattle.route_slots.proofs.uncrossing.rises_from.Given as goal

abbrev pub invariant-nets : goal.invariant-nets
invariant-nets l = (k : ℕ) → k < l.second → Precedes l.nets l.first k → net_depth l.depths l.first < net_depth l.depths k
