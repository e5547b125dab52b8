use Rattle.route_slots.specs.Slotting.{AreWaiting}
use Rattle.route_slots.proofs.slotting.waiting_of.Given as goal

abbrev pub invariant-segments : goal.invariant-segments
invariant-segments l = AreWaiting l.segments l.number l.waiting
