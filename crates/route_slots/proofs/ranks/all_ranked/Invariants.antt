use Rattle.std.proofs.Common.{◌≡◌, ℕ, ◌<◌}
use Rattle.route_slots.specs.NetDepths.{net_depth}
use Rattle.route_slots.specs.Ranks.{no_rank}
use Rattle.route_slots.proofs.ranks.all_ranked.Given as goal

abbrev pub invariant-depths : goal.invariant-depths
invariant-depths l = (j : ℕ) → j < l.k → net_depth l.depths j ≡ no_rank → ⊥
