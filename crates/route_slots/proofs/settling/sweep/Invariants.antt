use Rattle.route_slots.specs.Exchanges.{AreSteps}
use Rattle.route_slots.proofs.settling.sweep.Given as goal

abbrev pub invariant-slots : goal.invariant-slots
invariant-slots l = AreSteps l.nets l.count l.slot l.initial.routes.items l.routes.items l.changed
