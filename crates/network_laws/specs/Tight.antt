-- Tight edges, and states whose flow balances.
use Rattle.std.specs.Prelude.{◌≡◌, ℕ, ◌+◌, ◌<◌, ℤ, pos, ◌+ℤ◌, List, length, slice_index}
use Rattle.network_laws.specs.declared.network.NetEdge.{NetEdge}
use Rattle.network_laws.specs.Network.{edge_at, EndsBelow}
use Rattle.network_laws.specs.Layering.{layer_of, IsLayering, inward, outward, weights, Balances, PartsBeginAtZero, cost, IsSolution}

-- the head stands exactly `least` above the tail
abbrev pub IsTightEdge : List ℤ → NetEdge → Type 0
IsTightEdge layers e = layer_of layers e.tail +ℤ pos e.least ≡ layer_of layers e.head

-- an edge without flow may be slack, and no other
abbrev pub FlowOnTight : List NetEdge → List ℤ → List ℕ → Type 0
FlowOnTight edges layers flow =
    (k : ℕ) → k < length edges → 0 < slice_index flow k → IsTightEdge layers (edge_at edges k)

-- a state whose flow balances
pub record IsDone (nodes : ℕ) (edges : List NetEdge) (layers : List ℤ) (flow : List ℕ) : Type 0 where
  pub layer_for_each : length layers ≡ nodes
  pub flow_for_each : length flow ≡ length edges
  pub layering : IsLayering edges layers
  pub on_tight : FlowOnTight edges layers flow
  pub balances : Balances nodes edges flow
  pub from_zero : PartsBeginAtZero nodes edges layers

-- what comes in by flow and goes out by weight, and the other way round: the node is balanced where they agree
abbrev pub given : List NetEdge → List ℕ → ℕ → ℕ
given edges flow v = inward edges flow v + outward edges (weights edges) v

abbrev pub asked : List NetEdge → List ℕ → ℕ → ℕ
asked edges flow v = inward edges (weights edges) v + outward edges flow v

-- a state whose flow balances is a solution
abbrev pub DoneSolves : Type 0
DoneSolves =
    (nodes : ℕ) (edges : List NetEdge) (layers : List ℤ) (flow : List ℕ) (total : ℕ)
    → EndsBelow nodes edges → IsDone nodes edges layers flow → total ≡ cost edges layers → IsSolution nodes edges layers flow total
