use Rattle.std.proofs.Common.{◌≡◌}
use Rattle.network_parts.specs.Dividing.{HoldEdges, rows_of, sizes_of}
use Rattle.network_parts.proofs.dividing.give_edges.Given as goal

abbrev pub invariant-loop-edge : goal.invariant-loop-edge
invariant-loop-edge l = HoldEdges l.numbers l.edges l.edge-index (rows_of l.networks) × (sizes_of l.networks ≡ sizes_of l.initial.networks)
