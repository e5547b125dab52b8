-- Layerings, their cost, and flows that bound it.
use Rattle.std.specs.Prelude.{◌≡◌, ℕ, ◌+◌, ◌*◌, ◌<◌, ◌≤◌, ◌==◌, cond, ℤ, pos, negsuc, ◌+ℤ◌, ◌-ℤ◌, ◌≤ℤ◌, List, [], ◌∷◌, length, map}
use Rattle.std.specs.Prelude.{slice_index_or}
use Rattle.network_laws.specs.declared.network.NetEdge.{NetEdge}
use Rattle.network_laws.specs.Network.{edge_at, EndsBelow, InOnePart}

abbrev pub layer_of : List ℤ → ℕ → ℤ
layer_of layers v = slice_index_or layers v (pos 0)

-- each edge's head is at least `least` above its tail
abbrev pub IsLayering : List NetEdge → List ℤ → Type 0
IsLayering edges layers =
    (k : ℕ) → k < length edges
    → (layer_of layers (edge_at edges k).tail +ℤ pos (edge_at edges k).least) ≤ℤ layer_of layers (edge_at edges k).head

-- a number as a natural one, 0 if it is below
abbrev pub natural : ℤ → ℕ
natural (pos n) = n
natural (negsuc n) = 0

-- how far the edge rises
abbrev pub rise : List ℤ → NetEdge → ℕ
rise layers e = natural (layer_of layers e.head -ℤ layer_of layers e.tail)

-- the sum of each edge's amount times a number of the edge
abbrev pub weighed : (NetEdge → ℕ) → List NetEdge → List ℕ → ℕ
weighed g [] amounts = 0
weighed g (e ∷ es) [] = 0
weighed g (e ∷ es) (a ∷ as') = a * g e + weighed g es as'

abbrev pub weights : List NetEdge → List ℕ
weights edges = map (λ (e : NetEdge). e.weight) edges

-- the sum of weight times rise
abbrev pub cost : List NetEdge → List ℤ → ℕ
cost edges layers = weighed (rise layers) edges (weights edges)

-- the sum of the amounts of the edges that have this end at the node
abbrev pub at_node : (NetEdge → ℕ) → List NetEdge → List ℕ → ℕ → ℕ
at_node end [] amounts v = 0
at_node end (e ∷ es) [] v = 0
at_node end (e ∷ es) (a ∷ as') v = cond (end e == v) a 0 + at_node end es as' v

-- what comes in at a node, and what goes out
abbrev pub inward : List NetEdge → List ℕ → ℕ → ℕ
inward = at_node (λ e. e.head)

abbrev pub outward : List NetEdge → List ℕ → ℕ → ℕ
outward = at_node (λ e. e.tail)

-- at each node the flow in minus out is that of the weights
abbrev pub Balances : ℕ → List NetEdge → List ℕ → Type 0
Balances nodes edges flow =
    (v : ℕ) → v < nodes
    → inward edges flow v + outward edges (weights edges) v ≡ inward edges (weights edges) v + outward edges flow v

-- the sum of flow times `least`
abbrev pub flow_value : List NetEdge → List ℕ → ℕ
flow_value edges flow = weighed (λ (e : NetEdge). e.least) edges flow

-- no layering costs less
abbrev pub CostsLeast : List NetEdge → ℕ → Type 0
CostsLeast edges total = (other : List ℤ) → IsLayering edges other → total ≤ cost edges other

-- a flow that balances bounds the cost of every layering from below
abbrev pub FlowBounds : Type 0
FlowBounds =
    (nodes : ℕ) (edges : List NetEdge) (flow : List ℕ)
    → EndsBelow nodes edges → Balances nodes edges flow → CostsLeast edges (flow_value edges flow)

-- the least layer of each part is 0
pub record PartsBeginAtZero (nodes : ℕ) (edges : List NetEdge) (layers : List ℤ) : Type 0 where
  pub none_below : (v : ℕ) → v < nodes → pos 0 ≤ℤ layer_of layers v
  pub reached : (v : ℕ) → v < nodes → (u : ℕ) × (u < nodes) × InOnePart edges u v × (layer_of layers u ≡ pos 0)

-- what `solve` answers
pub record IsSolution (nodes : ℕ) (edges : List NetEdge) (layers : List ℤ) (flow : List ℕ) (total : ℕ) : Type 0 where
  pub layer_for_each : length layers ≡ nodes
  pub flow_for_each : length flow ≡ length edges
  pub layering : IsLayering edges layers
  pub from_zero : PartsBeginAtZero nodes edges layers
  pub cost_is : total ≡ cost edges layers
  pub balances : Balances nodes edges flow
  pub value_is : flow_value edges flow ≡ total
  pub least : CostsLeast edges total
