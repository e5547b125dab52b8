use Rattle.std.proofs.Common.{◌≡◌}
use Rattle.network_parts.specs.Dividing.{ArePlaces, HoldNodes, rows_of, sizes_of}
use Rattle.network_parts.proofs.dividing.place_nodes.Given as goal

abbrev pub invariant-loop-number : goal.invariant-loop-number
invariant-loop-number l =
    ArePlaces l.numbers l.number-index l.places.items
    × HoldNodes l.numbers l.number-index (sizes_of l.networks)
    × (rows_of l.networks ≡ rows_of l.initial.networks)
