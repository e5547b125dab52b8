-- Long edges as chains of edges that climb one layer each. (Sugiyama, Tagawa, Toda 1981: dummy vertices.)
use Rattle.std.specs.Prelude.{◌≡◌, ◌≢◌, ℕ, ◌+◌, ◌==◌, cond, List, [], ◌∷◌, map, filter, Option, Some, None, is_some, slice_index}
use Rattle.std.specs.Prelude.{slice_index_or}
use Rattle.graph_arena.specs.Graph.{Graph, Ends, lists_at, ends_at, IsNode, IsEdge, out_list, in_list, occurs, tail_in, head_in}
use Rattle.graph_arena.specs.declared.keys.EdgeKey.{EdgeKey}
use Rattle.long_edges.specs.declared.chains.Lane.{Lane}

abbrev pub edge_keys : List EdgeKey → List ℕ
edge_keys ks = map (λ k. k.at) ks

abbrev pub lane_nodes : List Lane → List ℕ
lane_nodes ls = map (λ l. l.node.at) ls

-- what a contract sees of the chains: the new nodes, and for each key of an old edge its chain
pub record Table : Type 0 where
  pub lanes : List Lane
  pub chains : List (List ℕ)

-- the chain of an old edge, from its tail on; no edges where there was no such edge
abbrev pub chain_at : Table → ℕ → List ℕ
chain_at c e = slice_index_or c.chains e []

-- the new nodes of an edge, in order
abbrev pub lanes_on : List Lane → ℕ → List Lane
lanes_on lanes e = filter (λ l. l.edge.at == e) lanes

-- the last of an edge and those after it
abbrev pub last_of : ℕ → List ℕ → ℕ
last_of k [] = k
last_of k (j ∷ ks) = last_of j ks

-- the last edge of a chain
abbrev pub tip : List ℕ → ℕ
tip [] = 0
tip (k ∷ ks) = last_of k ks

-- The node is new, one edge enters it, one leaves it, and it has no others.
pub record Joins (old new : Graph) (node into onward : ℕ) : Type 0 where
  pub is_new : lists_at old node ≡ None
  pub near : head_in (ends_at new into) ≡ Some node
  pub far : tail_in (ends_at new onward) ≡ Some node
  pub outs : out_list new node ≡ onward ∷ []
  pub ins : in_list new node ≡ into ∷ []

-- From a node in layer `low` an edge, and the others after it, lead up to the head. Between two of them stands a
-- new node, one layer above the node before.
abbrev pub Climbs : Graph → Graph → ℕ → ℕ → List ℕ → List Lane → ℕ → Type 0
Climbs old new low k [] [] head = head_in (ends_at new k) ≡ Some head
Climbs old new low k [] (l ∷ ls) head = ⊥
Climbs old new low k (j ∷ ks) [] head = ⊥
Climbs old new low k (j ∷ ks) (l ∷ ls) head =
    Joins old new l.node.at k j × (l.layer ≡ low + 1) × Climbs old new (low + 1) j ks ls head

-- An old edge keeps its tail, and is the first edge of a chain that climbs to its old head.
pub record IsChain (old new : Graph) (low e : ℕ) (x : Ends) (lanes : List Lane) (chain : List ℕ) : Type 0 where
  pub rest : List ℕ
  pub is : chain ≡ e ∷ rest
  pub tail : tail_in (ends_at new e) ≡ Some x.tail
  pub climbs : Climbs old new low e rest lanes x.head

-- Each old edge has its chain, over its own new nodes, and no other key has one.
pub record AreChains (old new : Graph) (layer : List ℕ) (lanes : List Lane) (chain : ℕ → List ℕ) : Type 0 where
  pub each : (e : ℕ) (x : Ends) → ends_at old e ≡ Some x → IsChain old new (slice_index layer x.tail) e x (lanes_on lanes e) (chain e)
  pub no_chain : (e : ℕ) → ends_at old e ≡ None → chain e ≡ []
  pub no_lanes : (e : ℕ) → ends_at old e ≡ None → lanes_on lanes e ≡ []

-- the edge stands once in one chain, and in no other
pub record InOne (chain : ℕ → List ℕ) (k : ℕ) : Type 0 where
  pub edge : ℕ
  pub once : occurs k (chain edge) ≡ 1
  pub nowhere_else : (e : ℕ) → e ≢ edge → occurs k (chain e) ≡ 0

-- Each edge of the graph stands in exactly one chain, and no other key stands in any.
pub record AreInOne (new : Graph) (chain : ℕ → List ℕ) : Type 0 where
  pub live : (k : ℕ) → IsEdge new k → InOne chain k
  pub dead : (k e : ℕ) → ends_at new k ≡ None → occurs k (chain e) ≡ 0

abbrev pub one_if_some : {T : Type 0} → Option T → ℕ
one_if_some o = cond (is_some o) 1 0

-- Each node of the new graph either was one of the old graph or is the node of one lane.
pub record AreLanes (old new : Graph) (lanes : List Lane) : Type 0 where
  pub once : (v : ℕ) → one_if_some (lists_at old v) + occurs v (lane_nodes lanes) ≡ one_if_some (lists_at new v)

-- At an old node the same edges leave, in order. Each edge that enters is now the last of its chain, in the same place.
pub record KeepsOrders (old new : Graph) (chain : ℕ → List ℕ) : Type 0 where
  pub outs : (v : ℕ) → IsNode old v → out_list new v ≡ out_list old v
  pub ins : (v : ℕ) → IsNode old v → in_list new v ≡ map (λ e. tip (chain e)) (in_list old v)
