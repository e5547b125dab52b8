-- The graph of a level's oriented edges that are no self-loops, and the chains that they become.
use Rattle.std.specs.Prelude.{◌≡◌, ◌≢◌, ℕ, ◌+◌, ◌<◌, Bool, List, [], Option, None, Some, length, slice_index, slice_index_or, IsTrue}
use Rattle.std.specs.Prelude.{IsFalse}
use Rattle.graph_arena.specs.Graph.{Graph, Ends, ends_at}
use Rattle.graph_arena.specs.Changes.{AddsEdge}
use Rattle.graph_arena.specs.declared.keys.NodeKey.{NodeKey}
use Rattle.graph_arena.specs.declared.keys.EdgeKey.{EdgeKey}
use Rattle.long_edges.specs.Chains.{Table, chain_at}
use Rattle.network_laws.specs.declared.network.NetEdge.{NetEdge}
use Rattle.level_model.specs.Level.{PlainLevel, edge_at, is_loop}
use Rattle.level_layout.specs.Certificate.{oriented}
use Rattle.layer_units.specs.Marks.{is_marked}
use Rattle.level_layout.specs.Marks.{node_of}

-- the children at which an oriented edge begins and ends
abbrev pub tail_by : PlainLevel → List Bool → ℕ → ℕ
tail_by l marks e = (oriented (is_marked marks e) (edge_at l e)).tail

abbrev pub head_by : PlainLevel → List Bool → ℕ → ℕ
head_by l marks e = (oriented (is_marked marks e) (edge_at l e)).head

-- the nodes of these children
abbrev pub between : List NodeKey → ℕ → ℕ → Ends
between nodes a b = record { tail = node_of nodes a; head = node_of nodes b }

-- an edge between two children came, or none did, since they are one
abbrev pub AddsLink : List NodeKey → NetEdge → Graph → Graph → Option EdgeKey → Type 0
AddsLink nodes x old new None = (x.tail ≡ x.head) × (new ≡ old)
AddsLink nodes x old new (Some k) = (x.tail ≢ x.head) × AddsEdge old new k.at (node_of nodes x.tail) (node_of nodes x.head)

abbrev pub key_in : List (Option EdgeKey) → ℕ → Option EdgeKey
key_in keys e = slice_index_or keys e None

-- a self-loop has no key, and any other edge that of an edge between its children
abbrev pub IsLinkAt : PlainLevel → List Bool → List NodeKey → Graph → ℕ → Option EdgeKey → Type 0
IsLinkAt l marks nodes g e None = IsTrue (is_loop l e)
IsLinkAt l marks nodes g e (Some k) = ends_at g k.at ≡ Some (between nodes (tail_by l marks e) (head_by l marks e))

-- the first n edges have their keys, and there is no other edge
pub record AreLinks (l : PlainLevel) (marks : List Bool) (nodes : List NodeKey) (g : Graph) (n : ℕ)
    (keys : List (Option EdgeKey)) : Type 0 where
  pub as_many : length keys ≡ n
  pub each : (e : ℕ) → e < n → IsLinkAt l marks nodes g e (key_in keys e)
  pub only : (k : ℕ) (x : Ends) → ends_at g k ≡ Some x
      → (e : ℕ) × (e < n) × IsFalse (is_loop l e) × (x ≡ between nodes (tail_by l marks e) (head_by l marks e))

-- the ends of an edge that leads to a child in a higher layer
pub record RisingEnds (nodes : List NodeKey) (layers : List ℕ) (x : Ends) : Type 0 where
  pub tail : ℕ
  pub head : ℕ
  pub tail_in : tail < length layers
  pub head_in : head < length layers
  pub is : x ≡ between nodes tail head
  pub up : slice_index layers tail < slice_index layers head

-- under the key of an edge between two children stands a chain with one edge for each layer that it climbs
pub record HasChain (layers : List ℕ) (chains : Table) (tail head k : ℕ) : Type 0 where
  pub some : chain_at chains k ≢ []
  pub climbs : slice_index layers tail + length (chain_at chains k) ≡ slice_index layers head

abbrev pub IsChainAt : PlainLevel → List ℕ → List Bool → Table → ℕ → Option EdgeKey → Type 0
IsChainAt l layers marks chains e None = IsTrue (is_loop l e)
IsChainAt l layers marks chains e (Some k) = HasChain layers chains (tail_by l marks e) (head_by l marks e) k.at

-- by edge its chain, and none for a self-loop
pub record AreChained (l : PlainLevel) (layers : List ℕ) (marks : List Bool) (keys : List (Option EdgeKey)) (chains : Table) : Type 0 where
  pub as_many : length keys ≡ length l.edges
  pub each : (e : ℕ) → e < length l.edges → IsChainAt l layers marks chains e (key_in keys e)
