use Rattle.std.proofs.Common.{◌≡◌, length, map, take}
use Rattle.std.specs.List.{filter}
use Rattle.layer_units.specs.Ports.{comes_before}
use Rattle.layer_units.proofs.ports.counted.Given as goal

abbrev pub invariant-loop-own : goal.invariant-loop-own
invariant-loop-own l = l.before.items ≡ map (λ own. length (filter (comes_before own) l.ports)) (take l.own-index l.ports)
