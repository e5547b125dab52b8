-- What the method keeps from one augmentation to the next.
use Rattle.std.specs.Prelude.{◌≡◌, ℕ, zero, suc, ◌+◌, ◌-◌, ◌*◌, ◌<◌, ◌≤◌, Bool, true, false, ℤ, pos, ◌+ℤ◌, ◌≤ℤ◌, ◌<ℤ◌, ◌^◌, cond, List}
use Rattle.std.specs.Prelude.{length, slice_index}
use Rattle.std.specs.List.{sum_by}
use Rattle.network_laws.specs.declared.network.NetEdge.{NetEdge}
use Rattle.network_laws.specs.Network.{edge_at, EndsBelow}
use Rattle.network_laws.specs.Layering.{layer_of, IsLayering, Balances}
use Rattle.network_laws.specs.Tight.{FlowOnTight, given, asked}
use Rattle.flow_dual.specs.declared.Label.{Label}
use Rattle.flow_dual.specs.State.{marked, Leaves, IsClosed, SomeLeaves, IsRaised}
use Rattle.flow_dual.specs.Labels.{PushedFrom}
use Rattle.flow_dual.specs.Search.{IsSearch}

-- the sum of `least` over all edges
abbrev pub all_least : List NetEdge → ℕ
all_least edges = sum_by (λ (e : NetEdge). e.least) edges

-- what the nodes together are given more than they ask
abbrev pub surplus : List NetEdge → List ℕ → ℕ → ℕ
surplus edges flow zero = 0
surplus edges flow (suc n) = surplus edges flow n + (given edges flow n - asked edges flow n)

-- a node that asks for more was never raised, so it stands at its first layer, and that is below this bound
abbrev pub LackingIsLow : ℕ → List NetEdge → List ℤ → List ℕ → Type 0
LackingIsLow nodes edges layers flow =
    (v : ℕ) → v < nodes → given edges flow v < asked edges flow v → layer_of layers v <ℤ pos (2 ^ 62)

-- between two searches
pub record IsRound (nodes : ℕ) (edges : List NetEdge) (layers : List ℤ) (flow : List ℕ) (most : ℕ) : Type 0 where
  pub layer_for_each : length layers ≡ nodes
  pub flow_for_each : length flow ≡ length edges
  pub layering : IsLayering edges layers
  pub on_tight : FlowOnTight edges layers flow
  pub from_zero : (v : ℕ) → v < nodes → pos 0 ≤ℤ layer_of layers v
  pub low : (v : ℕ) → v < nodes → layer_of layers v <ℤ pos (2 ^ 62 + all_least edges)
  pub lacking : LackingIsLow nodes edges layers flow
  pub flow_low : (k : ℕ) → slice_index flow k + surplus edges flow nodes ≤ most

-- within a search, before it has found a node that asks for more
pub record StaysLow (nodes : ℕ) (edges : List NetEdge) (layers : List ℤ) (flow : List ℕ) (set : ℕ → Bool) : Type 0 where
  pub outside : (v : ℕ) → v < nodes → set v ≡ false → layer_of layers v <ℤ pos (2 ^ 62 + all_least edges)
  pub all : (v : ℕ) → v < nodes → layer_of layers v <ℤ pos (2 ^ 62 + 2 * all_least edges)
  pub lacking : LackingIsLow nodes edges layers flow
  pub none_lacks : (v : ℕ) → set v ≡ true → asked edges flow v ≤ given edges flow v

-- a raise by the slack of an edge that leaves the reached nodes
abbrev pub RaiseStaysLow : Type 0
RaiseStaysLow =
    (nodes : ℕ) (edges : List NetEdge) (layers layers' : List ℤ) (flow : List ℕ) (source turn by k : ℕ) (reached : List Bool)
    (labels : List Label) (tree : List Bool)
    → length layers ≡ nodes → EndsBelow nodes edges → IsSearch edges layers flow source turn reached labels tree
    → IsRaised layers (marked reached) by layers'
    → k < length edges → Leaves (marked reached) (edge_at edges k)
    → (layer_of layers (edge_at edges k).tail +ℤ pos (edge_at edges k).least +ℤ pos by ≡ layer_of layers (edge_at edges k).head)
    → StaysLow nodes edges layers flow (marked reached) → StaysLow nodes edges layers' flow (marked reached)

-- once a node that asks for more is reached, all layers are as low as between two searches
abbrev pub FoundIsLow : Type 0
FoundIsLow =
    (nodes : ℕ) (edges : List NetEdge) (layers : List ℤ) (flow : List ℕ) (source turn to : ℕ) (reached : List Bool)
    (labels : List Label) (tree : List Bool) (set : ℕ → Bool)
    → IsSearch edges layers flow source turn reached labels tree → StaysLow nodes edges layers flow set
    → ((v : ℕ) → marked reached v ≡ false → set v ≡ false)
    → to < nodes → marked reached to ≡ true → given edges flow to < asked edges flow to
    → (v : ℕ) → v < nodes → layer_of layers v <ℤ pos (2 ^ 62 + all_least edges)

-- an augmentation keeps the state, and the surplus falls by the amount
abbrev pub PushKeeps : Type 0
PushKeeps =
    (nodes : ℕ) (edges : List NetEdge) (layers : List ℤ) (flow flow' : List ℕ) (most source turn to amount : ℕ)
    (reached : List Bool) (labels : List Label) (tree : List Bool)
    → EndsBelow nodes edges → IsRound nodes edges layers flow most → IsSearch edges layers flow source turn reached labels tree
    → source < nodes → given edges flow to + amount ≤ asked edges flow to → asked edges flow source + amount ≤ given edges flow source
    → PushedFrom edges labels flow to amount source flow'
    → IsRound nodes edges layers flow' most × (surplus edges flow' nodes + amount ≡ surplus edges flow nodes)

-- without a surplus the flow balances
abbrev pub NoSurplusBalances : Type 0
NoSurplusBalances =
    (nodes : ℕ) (edges : List NetEdge) (flow : List ℕ) → EndsBelow nodes edges → surplus edges flow nodes ≡ 0 → Balances nodes edges flow

-- a closed set whose nodes lack nothing, and one of which has a surplus, is left by an edge
abbrev pub SomeEdgeLeaves : Type 0
SomeEdgeLeaves =
    (nodes : ℕ) (edges : List NetEdge) (layers : List ℤ) (flow : List ℕ) (source : ℕ) (set : ℕ → Bool)
    → EndsBelow nodes edges → source < nodes → set source ≡ true → asked edges flow source < given edges flow source
    → ((v : ℕ) → set v ≡ true → asked edges flow v ≤ given edges flow v)
    → IsClosed edges layers flow set → SomeLeaves edges set

-- how many nodes are not reached
abbrev pub unreached : List Bool → ℕ
unreached reached = sum_by (λ b. cond b 0 1) reached

-- within a search that has found no node that asks for more
pub record IsWithin (nodes : ℕ) (edges : List NetEdge) (flow : List ℕ) (source turn : ℕ) (layers : List ℤ) (reached : List Bool)
    (labels : List Label) (tree : List Bool) : Type 0 where
  pub searched : IsSearch edges layers flow source turn reached labels tree
  pub low : StaysLow nodes edges layers flow (marked reached)
  pub layer_for_each : length layers ≡ nodes
  pub mark_for_each : length reached ≡ nodes
  pub layering : IsLayering edges layers
  pub from_zero : (v : ℕ) → pos 0 ≤ℤ layer_of layers v
  pub on_tight : FlowOnTight edges layers flow
  pub count : unreached reached + turn ≡ nodes
  pub begun : 0 < turn

-- a node that asks for more is found
pub record IsFound (nodes : ℕ) (edges : List NetEdge) (flow : List ℕ) (source to : ℕ) (layers : List ℤ) (reached : List Bool)
    (labels : List Label) (tree : List Bool) : Type 0 where
  pub turn : ℕ
  pub searched : IsSearch edges layers flow source turn reached labels tree
  pub is_node : to < nodes
  pub reached_to : marked reached to ≡ true
  pub lacks : given edges flow to < asked edges flow to
  pub layer_for_each : length layers ≡ nodes
  pub layering : IsLayering edges layers
  pub from_zero : (v : ℕ) → pos 0 ≤ℤ layer_of layers v
  pub on_tight : FlowOnTight edges layers flow
  pub low : (v : ℕ) → v < nodes → layer_of layers v <ℤ pos (2 ^ 62 + all_least edges)
  pub lacking : LackingIsLow nodes edges layers flow

-- where a search ends there is a state between two searches again
abbrev pub SearchEnds : Type 0
SearchEnds =
    (nodes : ℕ) (edges : List NetEdge) (layers layers' : List ℤ) (flow : List ℕ) (most source to : ℕ) (reached : List Bool)
    (labels : List Label) (tree : List Bool)
    → IsRound nodes edges layers flow most → IsFound nodes edges flow source to layers' reached labels tree
    → IsRound nodes edges layers' flow most
