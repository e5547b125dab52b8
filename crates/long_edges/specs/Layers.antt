-- Layers of nodes, and how many layers an edge spans.
use Rattle.std.specs.Prelude.{◌≡◌, ℕ, ◌+◌, ◌<◌, List, length, Some, None, slice_index}
use Rattle.graph_arena.specs.Graph.{Graph, Ends, ends_at, IsNode, IsEdge}

-- each node has its layer in the list, and each edge leads to a higher one
pub record IsLayered (g : Graph) (layer : List ℕ) : Type 0 where
  pub listed : (v : ℕ) → IsNode g v → v < length layer
  pub upward : (e : ℕ) (x : Ends) → ends_at g e ≡ Some x → slice_index layer x.tail < slice_index layer x.head

-- for each key as far as they are listed how many layers the edge spans, or 0
pub record AreHeightsTo (g : Graph) (layer heights : List ℕ) : Type 0 where
  pub live : (e : ℕ) (x : Ends) → e < length heights → ends_at g e ≡ Some x
      → slice_index layer x.tail + slice_index heights e ≡ slice_index layer x.head
  pub dead : (e : ℕ) → ends_at g e ≡ None → slice_index heights e ≡ 0

-- how many layers each edge spans, by key
pub record AreHeights (g : Graph) (layer heights : List ℕ) : Type 0 where
  pub listed : (e : ℕ) → IsEdge g e → e < length heights
  pub values : AreHeightsTo g layer heights

-- a chain has as many edges as there are layers from its tail up to its head
pub record IsOneALayer (old : Graph) (layer : List ℕ) (chain : ℕ → List ℕ) : Type 0 where
  pub counted : (e : ℕ) (x : Ends) → ends_at old e ≡ Some x → slice_index layer x.tail + length (chain e) ≡ slice_index layer x.head
