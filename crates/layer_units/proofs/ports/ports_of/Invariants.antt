use Rattle.std.proofs.Common.{◌≡◌, map, take}
use Rattle.layer_units.specs.Ports.{port_at}
use Rattle.layer_units.proofs.ports.ports_of.Given as goal

abbrev pub invariant-loop-spot : goal.invariant-loop-spot
invariant-loop-spot l = l.ports.items ≡ map (port_at l.child) (take l.spot-index l.spots)
