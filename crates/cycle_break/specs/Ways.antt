-- Ways along the edges of a graph.
use Rattle.std.specs.Prelude.{◌≡◌, ◌≤◌, ℕ, List, [], ◌∷◌, map, Some, unwrap_or}
use Rattle.graph_arena.specs.Graph.{Graph, ends_at, head_in, occurs}
use Rattle.graph_arena.specs.Paths.{Reaches}
use Rattle.graph_arena.specs.declared.keys.NodeKey.{NodeKey}
use Rattle.graph_arena.specs.declared.keys.EdgeKey.{EdgeKey}

-- an edge leads from a to b
pub record Step (g : Graph) (a b : ℕ) : Type 0 where
  pub edge : ℕ
  pub ends : ends_at g edge ≡ Some (record { tail = a; head = b })

-- these edges, one after the other, lead from a to b
abbrev pub Leads : Graph → ℕ → List ℕ → ℕ → Type 0
Leads g a [] b = a ≡ b
Leads g a (e ∷ es) b = (m : ℕ) × (ends_at g e ≡ Some (record { tail = a; head = m })) × Leads g m es b

-- the nodes to which a way from a along these edges comes, in order
abbrev pub nodes_on : Graph → ℕ → List ℕ → List ℕ
nodes_on g a es = a ∷ map (λ e. unwrap_or (head_in (ends_at g e)) 0) es

-- these edges, one after the other, lead from a to b, and come to no node twice
pub record IsPath (g : Graph) (a : ℕ) (es : List ℕ) (b : ℕ) : Type 0 where
  pub leads : Leads g a es b
  pub once : (v : ℕ) → occurs v (nodes_on g a es) ≤ 1

-- some edge, a self-loop included, lies on a cycle
pub record HasCycle (g : Graph) : Type 0 where
  pub from : ℕ
  pub to : ℕ
  pub step : Step g from to
  pub back : Reaches (Step g) to from

abbrev pub node_keys : List NodeKey → List ℕ
node_keys ks = map (λ k. k.at) ks

abbrev pub edge_keys : List EdgeKey → List ℕ
edge_keys ks = map (λ k. k.at) ks
