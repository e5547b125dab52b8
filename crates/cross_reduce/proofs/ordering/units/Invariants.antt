use Rattle.std.proofs.Common.{◌≡◌, map, take}
use Rattle.cross_reduce.specs.declared.ordering.Keyed.{Keyed}
use Rattle.cross_reduce.proofs.ordering.units.Given as goal

abbrev pub invariant-loop-keyed : goal.invariant-loop-keyed
invariant-loop-keyed l = l.row.items ≡ map (λ (k : Keyed). k.unit) (take l.keyed-index l.list)
