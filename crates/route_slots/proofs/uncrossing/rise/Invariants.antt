use Rattle.std.proofs.Common.{ℕ, ◌<◌, length}
use Rattle.route_slots.specs.NetDepths.{net_depth}
use Rattle.net_routes.specs.Uncrossed.{Precedes}
use Rattle.route_slots.proofs.uncrossing.rise.Given as goal

abbrev pub invariant-nets : goal.invariant-nets
invariant-nets l = (j k : ℕ) → j < l.first → k < length l.nets → Precedes l.nets j k → net_depth l.depths j < net_depth l.depths k
