use Rattle.std.proofs.Common.{ℕ, ◌<◌}
use Rattle.net_routes.specs.Pieces.{net_at}
use Rattle.route_slots.specs.Marks.{mark_at}
use Rattle.route_slots.specs.Choosing.{AreInOrder}
use Rattle.route_slots.proofs.choosing.row_keeps_order.Given as goal

abbrev pub invariant-nets : goal.invariant-nets
invariant-nets l = (k : ℕ) → k < l.k → AreInOrder (net_at l.nets l.j) (mark_at l.marks l.j) (net_at l.nets k) (mark_at l.marks k)
