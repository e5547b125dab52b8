-- Answers by part, while they are put together.
use Rattle.std.specs.Prelude.{◌≡◌, ◌<◌, ℕ, ℤ, List, [], length, map, slice_index, slice_index_or}
use Rattle.network_laws.specs.declared.network.NetEdge.{NetEdge}
use Rattle.network_laws.specs.declared.network.Solution.{Solution}
use Rattle.network_laws.specs.Network.{IsNetwork}
use Rattle.net_simplex.specs.Grown.{IsConnected}
use Rattle.network_parts.specs.Divided.{part_edges, part_nodes}
use Rattle.network_parts.specs.Dividing.{row_at}
use Rattle.network_parts.specs.Solved.{IsSolved}

-- layers, flow and cost by part
abbrev pub layers_in : List Solution → ℕ → List ℤ
layers_in solutions k = slice_index_or (map (λ s. s.layer.items) solutions) k []

abbrev pub flow_in : List Solution → ℕ → List ℕ
flow_in solutions k = slice_index_or (map (λ s. s.flow.items) solutions) k []

abbrev pub costs_of : List Solution → List ℕ
costs_of solutions = map (λ s. s.cost) solutions

-- a connected network with a node
pub record IsWhole (nodes : ℕ) (edges : List NetEdge) : Type 0 where
  pub network : IsNetwork nodes edges
  pub some : 0 < nodes
  pub connected : IsConnected nodes edges

-- all networks of these sizes and edges are such
abbrev pub AreWhole : List ℕ → List (List NetEdge) → Type 0
AreWhole sizes rows = (k : ℕ) → k < length sizes → IsWhole (slice_index sizes k) (row_at rows k)

-- the first n networks are solved
pub record AreSolved (sizes : List ℕ) (rows : List (List NetEdge)) (n : ℕ) (solutions : List Solution) : Type 0 where
  pub as_many : length solutions ≡ n
  pub each : (k : ℕ) → k < n
      → IsSolved (slice_index sizes k) (row_at rows k) (layers_in solutions k) (flow_in solutions k) (slice_index (costs_of solutions) k)

-- the parts of a network are solved
abbrev pub ArePartsSolved : List ℕ → List NetEdge → List Solution → Type 0
ArePartsSolved numbers edges solutions =
    (k : ℕ) → k < length solutions
    → IsSolved (part_nodes numbers k) (part_edges numbers edges k) (layers_in solutions k) (flow_in solutions k)
    (slice_index (costs_of solutions) k)
