use Rattle.std.proofs.Common.{◌≡◌, ℕ, ◌<◌}
use Rattle.route_slots.specs.NetDepths.{net_depth}
use Rattle.net_routes.specs.Uncrossed.{Precedes}
use Rattle.route_slots.specs.Ranks.{no_rank}
use Rattle.route_slots.proofs.ranks.is_held_back.Given as goal

abbrev pub invariant-nets : goal.invariant-nets
invariant-nets l = (j : ℕ) → j < l.other → net_depth l.depths j ≡ no_rank → Precedes l.nets j l.number → ⊥
