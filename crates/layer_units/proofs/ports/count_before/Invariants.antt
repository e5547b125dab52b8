use Rattle.std.proofs.Common.{◌≡◌, ◌≤◌, length, take}
use Rattle.std.specs.List.{filter}
use Rattle.layer_units.specs.Ports.{comes_before}
use Rattle.layer_units.proofs.ports.count_before.Given as goal

abbrev pub invariant-loop-port : goal.invariant-loop-port
invariant-loop-port l = record { counted : l.count ≡ length (filter (comes_before l.own) (take l.port-index l.ports)); few : l.count ≤ l.port-index }
