use Rattle.std.proofs.Common.{◌≡◌, pos, map, take}
use Rattle.ns_place.proofs.closing.as_tops.Given as goal

abbrev pub invariant-loop-n : goal.invariant-loop-n
invariant-loop-n l = l.top.items ≡ map pos (take l.n-index l.closed)
