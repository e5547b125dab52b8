use Rattle.std.proofs.Common.{◌≡◌, length}
use Rattle.cross_reduce.proofs.reordering.places_in.Given as goal

abbrev pub invariant-loop-unit : goal.invariant-loop-unit
invariant-loop-unit l = length l.places.items ≡ l.unit
