-- The connected parts of a network as networks of their own.
use Rattle.std.specs.Prelude.{◌==◌, ℕ, ℤ, List, length, map, slice_index}
use Rattle.std.specs.List.{filter, range_with_len}
use Rattle.network_laws.specs.declared.network.NetEdge.{NetEdge}
use Rattle.network_laws.specs.Network.{edge_at}
use Rattle.network_laws.specs.Layering.{layer_of}

-- of the first n nodes those of part k, in ascending order, where `numbers` has for each node the number of its part
abbrev pub nodes_to : List ℕ → ℕ → ℕ → List ℕ
nodes_to numbers k n = filter (λ v. slice_index numbers v == k) (range_with_len 0 n)

abbrev pub nodes_of : List ℕ → ℕ → List ℕ
nodes_of numbers k = nodes_to numbers k (length numbers)

-- of the first n edges those of part k, by number, in ascending order; both ends of an edge lie in one part
abbrev pub links_to : List ℕ → List NetEdge → ℕ → ℕ → List ℕ
links_to numbers edges k n = filter (λ e. slice_index numbers (edge_at edges e).tail == k) (range_with_len 0 n)

abbrev pub links_of : List ℕ → List NetEdge → ℕ → List ℕ
links_of numbers edges k = links_to numbers edges k (length edges)

-- a node's place in its part: how many nodes of the part come before it
abbrev pub place_of : List ℕ → ℕ → ℕ
place_of numbers v = length (nodes_to numbers (slice_index numbers v) v)

-- an edge whose ends are told by their places
abbrev pub renumbered : List ℕ → NetEdge → NetEdge
renumbered numbers e = record { tail = place_of numbers e.tail; head = place_of numbers e.head; least = e.least; weight = e.weight }

-- part k as a network of its own: so many nodes, and its edges in the order of their numbers
abbrev pub part_nodes : List ℕ → ℕ → ℕ
part_nodes numbers k = length (nodes_of numbers k)

abbrev pub part_edges : List ℕ → List NetEdge → ℕ → List NetEdge
part_edges numbers edges k = map (λ e. renumbered numbers (edge_at edges e)) (links_of numbers edges k)

-- the layers of the nodes of part k, and the flow of its edges
abbrev pub part_layers : List ℕ → List ℤ → ℕ → List ℤ
part_layers numbers layers k = map (layer_of layers) (nodes_of numbers k)

abbrev pub part_flow : List ℕ → List NetEdge → List ℕ → ℕ → List ℕ
part_flow numbers edges flow k = map (slice_index flow) (links_of numbers edges k)
