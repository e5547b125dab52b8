use Rattle.std.proofs.Common.{◌≡◌, ◌+◌, ◌≤◌, ◌*◌, ◌^◌, drop}
use Rattle.ns_place.specs.Weighed.{weighed_heights}
use Rattle.ns_place.proofs.heights.weighed_height.Given as goal

abbrev pub invariant-loop-k : goal.invariant-loop-k
invariant-loop-k l =
    (l.height + weighed_heights l.top (drop l.k l.links) (drop l.k l.weights) ≡ weighed_heights l.top l.links l.weights) × (l.height ≤ l.k * 2 ^ 96)
