-- The first flow, which fills the tight edges, and what each node is then given more than it asks.
use Rattle.std.specs.Prelude.{◌≡◌, ℕ, ◌<◌, ◌≤◌, ◌*◌, ◌^◌, ◌==◌, cond, ◌⊎◌, ℤ, pos, ◌+ℤ◌, ◌≤ℤ◌, List, length, set, slice_index, take}
use Rattle.network_laws.specs.declared.network.NetEdge.{NetEdge}
use Rattle.network_laws.specs.Network.{edge_at}
use Rattle.network_laws.specs.Layering.{layer_of, weights, inward, outward}
use Rattle.network_laws.specs.Tight.{IsTightEdge}

-- one edge's weight is given to its tail, and asked by its head
pub record TalliesEdge (old : List ℤ) (e : NetEdge) (new : List ℤ) : Type 0 where
  pub as_long : length new ≡ length old
  pub moved : (v : ℕ) → layer_of new v +ℤ pos (cond (e.head == v) e.weight 0) ≡ layer_of old v +ℤ pos (cond (e.tail == v) e.weight 0)

-- a tight edge gets its weight as flow, and the weight of any other is counted at its ends
abbrev pub BeginsEdge : List ℤ → NetEdge → ℕ → List ℕ → List ℤ → List ℕ → List ℤ → Type 0
BeginsEdge layers e k flow excess flow' excess' =
    (IsTightEdge layers e × (flow' ≡ set flow k e.weight) × (excess' ≡ excess))
    ⊎ ((flow' ≡ flow) × TalliesEdge excess e excess')

-- an edge's first flow: its weight where it is tight, and else none
abbrev pub IsFirstFlow : List ℤ → NetEdge → ℕ → Type 0
IsFirstFlow layers e amount = (IsTightEdge layers e × (amount ≡ e.weight)) ⊎ (amount ≡ 0)

-- the first edges have begun
pub record HasBegun (edges : List NetEdge) (layers : List ℤ) (i : ℕ) (flow : List ℕ) (excess : List ℤ) : Type 0 where
  pub as_long : length excess ≡ length layers
  pub flow_long : length flow ≡ length edges
  pub begun : (k : ℕ) → k < i → IsFirstFlow layers (edge_at edges k) (slice_index flow k)
  pub none_yet : (k : ℕ) → i ≤ k → slice_index flow k ≡ 0
  pub tells : (v : ℕ) → pos (inward (take i edges) (weights (take i edges)) v) +ℤ pos (outward (take i edges) flow v) +ℤ layer_of excess v
      ≡ pos (inward (take i edges) flow v) +ℤ pos (outward (take i edges) (weights (take i edges)) v)
  pub low : (v : ℕ) → pos 0 ≤ℤ (layer_of excess v +ℤ pos (i * 2 ^ 33))
  pub high : (v : ℕ) → layer_of excess v ≤ℤ pos (i * 2 ^ 33)
