use Rattle.route_slots.specs.Numbers.{AreHeightNumbers}
use Rattle.route_slots.proofs.heights.heights_of.Given as goal

abbrev pub invariant-nets : goal.invariant-nets
invariant-nets l = AreHeightNumbers l.nets l.net-index l.heights
