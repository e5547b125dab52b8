use Rattle.std.proofs.Common.{◌≡◌, ◌≤◌, ◌*◌, length}
use Rattle.net_routes.specs.Limits.{net_limit}
use Rattle.net_routes.specs.Crossings.{sum_to, cut_at}
use Rattle.route_slots.proofs.crossings.crossings_of.Given as goal

abbrev pub invariant-nets : goal.invariant-nets
invariant-nets l = record { sum : l.total ≡ sum_to (λ j. sum_to (cut_at l.nets l.routes j) (length l.nets)) l.j; few : l.total ≤ 6 * net_limit * l.j }
