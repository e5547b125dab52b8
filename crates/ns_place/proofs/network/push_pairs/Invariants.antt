use Rattle.std.proofs.Common.{◌≡◌, ◌++◌, map, take}
use Rattle.elk_layers.specs.Layered.{plain}
use Rattle.ns_place.specs.Network.{edge_for}
use Rattle.ns_place.proofs.network.push_pairs.Given as goal

abbrev pub invariant-loop-pair : goal.invariant-loop-pair
invariant-loop-pair l = l.edges.items ≡ l.initial.edges.items ++ map (edge_for (plain l.layered) l.alone) (take l.pair-index l.pairs)
