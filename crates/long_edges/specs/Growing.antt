-- How far the splitting has come.
use Rattle.std.specs.Prelude.{◌≡◌, ℕ, ◌+◌, ◌<◌, ◌≤◌, ◌-◌, ◌==◌, cond, List, [], ◌∷◌, ◌++◌, length, map, sum_by, Some, is_some, slice_index}
use Rattle.std.specs.Prelude.{slice_index_or, vec_len, vec_capacity}
use Rattle.graph_arena.specs.Graph.{Graph, Ends, ends_at, IsEdge, IsIncidence}
use Rattle.graph_arena.specs.declared.keys.EdgeKey.{EdgeKey}
use Rattle.long_edges.specs.declared.chains.Lane.{Lane}
use Rattle.long_edges.specs.declared.chains.Span.{Span}
use Rattle.long_edges.specs.declared.splitting.Found.{Found}
use Rattle.long_edges.specs.Spans.{part_of, AreWithin}
use Rattle.long_edges.specs.Chains.{AreChains, AreInOne, AreLanes, KeepsOrders, edge_keys, tip}

-- all that is said of chains but their heights
pub record Grown (old new : Graph) (layer : List ℕ) (lanes : List Lane) (chain : ℕ → List ℕ) : Type 0 where
  pub sound : IsIncidence old
  pub chains : AreChains old new layer lanes chain
  pub edges : AreInOne new chain
  pub nodes : AreLanes old new lanes
  pub orders : KeepsOrders old new chain

-- one chain is another one
abbrev pub changed : (ℕ → List ℕ) → ℕ → List ℕ → ℕ → List ℕ
changed chain e ks j = cond (j == e) ks (chain j)

-- An edge that was a chain by itself became a chain of a height, up to an edge `top`.
pub record Extended (g0 g1 : Graph) (edge top low height : ℕ) (lanes0 lanes1 : List Lane) (edges0 edges1 : List EdgeKey) : Type 0 where
  pub more : List EdgeKey
  pub edges : edges1 ≡ edges0 ++ more
  pub count : length more ≡ height
  pub last : tip (edge_keys more) ≡ top
  pub grown : (old : Graph) (layer : List ℕ) (x : Ends) (chain : ℕ → List ℕ) → Grown old g0 layer lanes0 chain
      → ends_at old edge ≡ Some x → slice_index layer x.tail ≡ low → chain edge ≡ edge ∷ []
      → Grown old g1 layer lanes1 (changed chain edge (edge_keys more))

-- an edge is a chain by itself
abbrev pub alone : Graph → ℕ → List ℕ
alone g e = cond (is_some (ends_at g e)) (e ∷ []) []

-- The key of an edge got a chain of the edge's height, and that of no edge none.
pub record AddsChain (g0 g1 : Graph) (layer : List ℕ) (edge height : ℕ) (lanes0 lanes1 : List Lane)
    (edges0 edges1 : List EdgeKey) : Type 0 where
  pub more : List EdgeKey
  pub edges : edges1 ≡ edges0 ++ more
  pub count : length more ≡ height
  pub grown : (old : Graph) (chain : ℕ → List ℕ) → Grown old g0 layer lanes0 chain → (0 < height → IsEdge old edge)
      → (height ≡ 0 → chain edge ≡ []) → (0 < height → chain edge ≡ edge ∷ [])
      → Grown old g1 layer lanes1 (changed chain edge (edge_keys more))

-- what was found, and each key after that as it was
abbrev pub so_far : Graph → List EdgeKey → List Span → ℕ → List ℕ
so_far old edges spans e = slice_index_or (map (part_of edges) spans) e (alone old e)

-- the keys that have a span have their chains, of the right heights
pub record Reached (old g : Graph) (layer : List ℕ) (lanes : List Lane) (edges : List EdgeKey) (spans : List Span) : Type 0 where
  pub within : AreWithin edges spans
  pub grown : Grown old g layer lanes (so_far old edges spans)
  pub high : (e : ℕ) (x : Ends) → ends_at old e ≡ Some x → e < length spans
      → slice_index layer x.tail + length (so_far old edges spans e) ≡ slice_index layer x.head

-- there is room for the chains of edges of such heights
pub record HasRooms (g : Graph) (f : Found) (heights : List ℕ) : Type 0 where
  pub for_nodes : sum_by (λ h. h - 1) heights ≤ g.node_room
  pub for_edges : sum_by (λ h. h - 1) heights ≤ g.edge_room
  pub for_lanes : vec_len f.lanes + sum_by (λ h. h - 1) heights ≤ vec_capacity f.lanes
  pub for_chains : vec_len f.edges + sum_by (λ h. h - 0) heights ≤ vec_capacity f.edges
  pub for_spans : vec_len f.spans + length heights ≤ vec_capacity f.spans

-- nothing was found yet
pub record IsEmpty (f : Found) : Type 0 where
  pub no_lanes : f.lanes.items ≡ []
  pub no_edges : f.edges.items ≡ []
  pub no_spans : f.spans.items ≡ []
