-- How high a layering of least cost can be.
use Rattle.std.specs.Prelude.{◌≡◌, ◌<◌, ◌≤◌, ℕ, ℤ, pos, ◌<ℤ◌, List, length}
use Rattle.network_laws.specs.declared.network.NetEdge.{NetEdge}
use Rattle.network_laws.specs.Network.{edge_at, EndsBelow}
use Rattle.network_laws.specs.Layering.{layer_of, IsSolution}

-- each edge's length is 1, and each weight at least 1
pub record IsPlainNetwork (edges : List NetEdge) : Type 0 where
  pub unit : (k : ℕ) → k < length edges → (edge_at edges k).least ≡ 1
  pub weighs : (k : ℕ) → k < length edges → 1 ≤ (edge_at edges k).weight

-- Where all lengths are 1 and each part begins at layer 0, a layering of least cost leaves no layer of a part empty below its
-- greatest. So layers are below the number of nodes.
abbrev pub LayersStayLow : Type 0
LayersStayLow =
    (nodes : ℕ) (edges : List NetEdge) (layers : List ℤ) (flow : List ℕ) (total : ℕ)
    → EndsBelow nodes edges → IsPlainNetwork edges → IsSolution nodes edges layers flow total
    → (v : ℕ) → v < nodes → layer_of layers v <ℤ pos nodes
