-- Networks while they are filled with the nodes and edges of parts.
use Rattle.std.specs.Prelude.{◌≡◌, ◌<◌, ◌+◌, ℕ, List, [], length, map, slice_index, slice_index_or}
use Rattle.network_laws.specs.declared.network.NetEdge.{NetEdge}
use Rattle.network_laws.specs.declared.network.Network.{Network}
use Rattle.network_laws.specs.Network.{edge_at}
use Rattle.network_parts.specs.Divided.{links_to, nodes_to, place_of, renumbered}

-- the numbers of the first n nodes lie below a count, and the last number below it is among them
pub record AreCounted (numbers : List ℕ) (n count : ℕ) : Type 0 where
  pub below : (v : ℕ) → v < n → slice_index numbers v < count
  pub last : 0 < count → (v : ℕ) × (v < n) × (slice_index numbers v + 1 ≡ count)

-- the numbers of nodes and the edges of networks
abbrev pub sizes_of : List Network → List ℕ
sizes_of networks = map (λ net. net.nodes) networks

abbrev pub rows_of : List Network → List (List NetEdge)
rows_of networks = map (λ net. net.edges.items) networks

abbrev pub row_at : List (List NetEdge) → ℕ → List NetEdge
row_at rows k = slice_index_or rows k []

-- each network has as many nodes as there are among the first n in its part
abbrev pub HoldNodes : List ℕ → ℕ → List ℕ → Type 0
HoldNodes numbers n sizes = (k : ℕ) → k < length sizes → slice_index sizes k ≡ length (nodes_to numbers k n)

-- each network has those of the first n edges that lie in its part
abbrev pub HoldEdges : List ℕ → List NetEdge → ℕ → List (List NetEdge) → Type 0
HoldEdges numbers edges n rows =
    (k : ℕ) → k < length rows → row_at rows k ≡ map (λ e. renumbered numbers (edge_at edges e)) (links_to numbers edges k n)

-- the places of the first n nodes
pub record ArePlaces (numbers : List ℕ) (n : ℕ) (places : List ℕ) : Type 0 where
  pub as_many : length places ≡ n
  pub each : (v : ℕ) → v < n → slice_index places v ≡ place_of numbers v
