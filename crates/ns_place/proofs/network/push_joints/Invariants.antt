use Rattle.std.proofs.Common.{◌≡◌, ◌+◌, ◌++◌, drop}
use Rattle.ns_place.specs.Network.{joining}
use Rattle.ns_place.proofs.network.push_joints.Given as goal

abbrev pub invariant-loop-k : goal.invariant-loop-k
invariant-loop-k l =
    l.edges.items ++ joining (l.first + l.k) (drop l.k l.links) (drop l.k l.weights) ≡ l.initial.edges.items ++ joining l.first l.links l.weights
