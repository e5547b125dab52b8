use Rattle.std.proofs.Common.{◌≡◌, ◌≤◌, ◌*◌}
use Rattle.net_routes.specs.Crossings.{sum_to, cut_at}
use Rattle.route_slots.proofs.crossings.row_crossings.Given as goal

abbrev pub invariant-nets : goal.invariant-nets
invariant-nets l = record { sum : l.total ≡ sum_to (cut_at l.nets l.routes l.j) l.k; few : l.total ≤ 6 * l.k }
