use Rattle.route_slots.proofs.Meeting.{AreMet}
use Rattle.route_slots.proofs.middles.middles_of.Given as goal

abbrev pub invariant-nets : goal.invariant-nets
invariant-nets l = AreMet l.nets l.top.value l.taken l.middles.items l.number
