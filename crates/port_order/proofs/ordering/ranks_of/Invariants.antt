use Rattle.std.proofs.Common.{◌≡◌, ◌<◌, ℕ, take}
use Rattle.std.specs.Prelude.{IsTrue}
use Rattle.port_order.specs.Child.{spot_at}
use Rattle.port_order.specs.Ranks.{IsCounted, is_spread_on, ranks_of}
use Rattle.port_order.proofs.ordering.ranks_of.Given as goal

abbrev pub invariant-loop-spot : goal.invariant-loop-spot
invariant-loop-spot l = record { ranks : l.ranks.items ≡ ranks_of l.fn.child l.fn.side (take l.spot-index l.fn.spots); counts : (k : ℕ) → k < l.spot-index → IsTrue (is_spread_on l.fn.child l.fn.side (spot_at l.fn.spots k)) → IsCounted (spot_at l.fn.spots k).mean }
