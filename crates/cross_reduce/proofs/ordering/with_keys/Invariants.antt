use Rattle.std.proofs.Common.{◌≡◌, map, take}
use Rattle.cross_reduce.specs.declared.ordering.Keyed.{Keyed}
use Rattle.cross_reduce.proofs.ordering.with_keys.Given as goal

abbrev pub invariant-loop-unit : goal.invariant-loop-unit
invariant-loop-unit l = map (λ (k : Keyed). k.unit) l.list.items ≡ take l.unit-index l.row
