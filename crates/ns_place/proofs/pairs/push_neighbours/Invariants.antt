use Rattle.std.proofs.Common.{◌≡◌, ◌-◌, ◌++◌, drop}
use Rattle.ns_place.specs.Pairs.{neighbours}
use Rattle.ns_place.proofs.pairs.push_neighbours.Given as goal

abbrev pub invariant-loop-i : goal.invariant-loop-i
invariant-loop-i l =
    l.pairs.items ++ neighbours l.body (drop (l.i - 1) l.units) ≡ l.initial.pairs.items ++ neighbours l.body l.units
