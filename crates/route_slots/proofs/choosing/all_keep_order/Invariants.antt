use Rattle.std.proofs.Common.{ℕ, ◌<◌, length}
use Rattle.net_routes.specs.Pieces.{net_at}
use Rattle.route_slots.specs.Marks.{mark_at}
use Rattle.route_slots.specs.Choosing.{AreInOrder}
use Rattle.route_slots.proofs.choosing.all_keep_order.Given as goal

abbrev pub invariant-nets : goal.invariant-nets
invariant-nets l = (j k : ℕ) → j < l.j → k < length l.nets → AreInOrder (net_at l.nets j) (mark_at l.marks j) (net_at l.nets k) (mark_at l.marks k)
