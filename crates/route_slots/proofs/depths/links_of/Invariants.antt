use Rattle.route_slots.specs.Numbers.{AreLinks}
use Rattle.route_slots.proofs.depths.links_of.Given as goal

abbrev pub invariant-nets : goal.invariant-nets
invariant-nets l = AreLinks l.heights.numbers l.nets l.links.items l.net-index
