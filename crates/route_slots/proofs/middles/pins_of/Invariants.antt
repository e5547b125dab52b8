use Rattle.route_slots.specs.Middles.{HoldPins}
use Rattle.route_slots.proofs.middles.pins_of.Given as goal

abbrev pub invariant-nets : goal.invariant-nets
invariant-nets l = HoldPins l.nets l.net-index l.taken
