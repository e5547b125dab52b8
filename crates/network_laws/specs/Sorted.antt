-- Edges from lower-numbered nodes to higher-numbered ones.
use Rattle.std.specs.Prelude.{◌≡◌, ℕ, ◌<◌, ◌*◌, ◌≤◌, ◌^◌, List, take}
use Rattle.std.specs.List.{sum_by}
use Rattle.network_laws.specs.declared.network.NetEdge.{NetEdge}
use Rattle.network_laws.specs.Network.{edge_at}

-- the first edges lead upwards, and these are their sums
pub record SumsEdges (nodes : ℕ) (edges : List NetEdge) (i least weight : ℕ) : Type 0 where
  pub upwards : (k : ℕ) → k < i → ((edge_at edges k).tail < (edge_at edges k).head) × ((edge_at edges k).head < nodes)
  pub least_is : least ≡ sum_by (λ (e : NetEdge). e.least) (take i edges)
  pub weight_is : weight ≡ sum_by (λ (e : NetEdge). e.weight) (take i edges)
  pub least_small : least ≤ i * 2 ^ 64
  pub weight_small : weight ≤ i * 2 ^ 64
