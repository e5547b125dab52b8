-- The graph of a level with its keys, and the marks of the edges that are reversed in it.
use Rattle.std.specs.Prelude.{◌≡◌, ◌<◌, ◌==◌, ℕ, Bool, not, Some, List, length, slice_index_or}
use Rattle.graph_arena.specs.Graph.{Graph, Ends, ends_at, IsNode}
use Rattle.graph_arena.specs.declared.keys.NodeKey.{NodeKey}
use Rattle.graph_arena.specs.declared.keys.EdgeKey.{EdgeKey}
use Rattle.level_model.specs.Level.{PlainLevel}
use Rattle.layer_units.specs.Marks.{is_marked}
use Rattle.level_layout.specs.Certificate.{source_of, target_of}

-- the node and the edge of these numbers
abbrev pub node_of : List NodeKey → ℕ → ℕ
node_of nodes c = (slice_index_or nodes c (record { at = 0 })).at

abbrev pub key_of : List EdgeKey → ℕ → ℕ
key_of keys e = (slice_index_or keys e (record { at = 0 })).at

-- n nodes, no two of them the same
pub record AreNodes (g : Graph) (n : ℕ) (nodes : List NodeKey) : Type 0 where
  pub as_many : length nodes ≡ n
  pub live : (c : ℕ) → c < n → IsNode g (node_of nodes c)
  pub once : (b c : ℕ) → b < n → c < n → node_of nodes b ≡ node_of nodes c → b ≡ c

-- the first n edges of the level lead from the nodes of their sources to those of their targets, and there is no other edge
pub record AreEdges (l : PlainLevel) (nodes : List NodeKey) (g : Graph) (n : ℕ) (keys : List EdgeKey) : Type 0 where
  pub as_many : length keys ≡ n
  pub ends : (e : ℕ) → e < n → ends_at g (key_of keys e) ≡ Some (record {
    tail = node_of nodes (source_of l e);
    head = node_of nodes (target_of l e);
  })
  pub only : (k : ℕ) (x : Ends) → ends_at g k ≡ Some x → (e : ℕ) × (e < n) × (key_of keys e ≡ k)

-- a graph for the level
pub record IsGraphOf (l : PlainLevel) (nodes : List NodeKey) (keys : List EdgeKey) (g : Graph) : Type 0 where
  pub nodes_are : AreNodes g (length l.children) nodes
  pub edges_are : AreEdges l nodes g (length l.edges) keys

-- the first n edges are marked where they leave another node than that of their source
pub record AreMarkedEdges (l : PlainLevel) (nodes : List NodeKey) (keys : List EdgeKey) (g : Graph) (n : ℕ)
    (marks : List Bool) : Type 0 where
  pub as_many : length marks ≡ n
  pub marked : (e : ℕ) (x : Ends) → e < n → ends_at g (key_of keys e) ≡ Some x
      → is_marked marks e ≡ not (x.tail == node_of nodes (source_of l e))
