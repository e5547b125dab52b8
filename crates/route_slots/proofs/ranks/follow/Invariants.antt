use Rattle.route_slots.specs.Ranks.{AreRanks}
use Rattle.route_slots.proofs.ranks.follow.Given as goal

abbrev pub invariant-order : goal.invariant-order
invariant-order l = AreRanks l.nets l.depths l.next
