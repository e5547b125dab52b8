use Rattle.std.proofs.Common.{◌≡◌, ◌≤◌, length, take}
use Rattle.std.specs.List.{filter}
use Rattle.layer_units.specs.Ports.{counts}
use Rattle.layer_units.proofs.ports.count_on.Given as goal

abbrev pub invariant-loop-port : goal.invariant-loop-port
invariant-loop-port l = record { counted : l.count ≡ length (filter (counts l.side) (take l.port-index l.ports)); few : l.count ≤ l.port-index }
