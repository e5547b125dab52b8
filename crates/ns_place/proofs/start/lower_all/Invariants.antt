use Rattle.std.proofs.Common.{◌≡◌, map, take}
use Rattle.ns_place.specs.Start.{lowered}
use Rattle.ns_place.proofs.start.lower_all.Given as goal

abbrev pub invariant-loop-t : goal.invariant-loop-t
invariant-loop-t l = l.low.items ≡ map lowered (take l.t-index l.top)
