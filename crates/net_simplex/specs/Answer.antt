-- What the last state of a chain gives, and how a chain ends.
use Rattle.std.specs.Prelude.{◌≡◌, ℕ, ◌<◌, ◌≤◌, ℤ, List, length, Some, None, Bool, true}
use Rattle.network_laws.specs.declared.network.NetEdge.{NetEdge}
use Rattle.network_laws.specs.Network.{edge_at, EndsBelow}
use Rattle.network_laws.specs.Layering.{IsLayering}
use Rattle.network_laws.specs.Tight.{IsDone, IsTightEdge}
use Rattle.network_laws.specs.Paths.{AreGreatestSums}
use Rattle.network_laws.specs.Linked.{is_marked, Linked}
use Rattle.net_simplex.specs.Tree.{State, IsState, IsCut}
use Rattle.net_simplex.specs.Pivots.{Growing, is_in, grown_once, first_state, pivot, Pivots, NoneNegative, HasNegative, flow_of, lowered}

-- a state without a negative cut value is a layering of least cost, and its cut values are a flow that balances
abbrev pub LastIsBest : Type 0
LastIsBest =
    (nodes : ℕ) (edges : List NetEdge) (s : State)
    → EndsBelow nodes edges → IsState nodes edges s → NoneNegative nodes edges s
    → IsDone nodes edges (lowered s.layers) (flow_of nodes edges s)

-- from the first tree over the layering of greatest path sums at most `budget` pivots lead to a state without a negative
-- cut value, and this state is the answer
pub record EndsInTime (nodes : ℕ) (edges : List NetEdge) (budget pivots : ℕ) (layers : List ℤ) (flow : List ℕ) : Type 0 where
  pub start : List ℤ
  pub is_start : AreGreatestSums nodes edges start
  pub last : State
  pub in_budget : pivots ≤ budget
  pub chain : Pivots nodes edges (first_state nodes edges start) pivots last
  pub at_end : NoneNegative nodes edges last
  pub layers_are : layers ≡ lowered last.layers
  pub flow_is : flow ≡ flow_of nodes edges last

-- after `budget` pivots a cut value is negative
pub record RunsOut (nodes : ℕ) (edges : List NetEdge) (budget : ℕ) : Type 0 where
  pub start : List ℤ
  pub is_start : AreGreatestSums nodes edges start
  pub last : State
  pub chain : Pivots nodes edges (first_state nodes edges start) budget last
  pub goes_on : HasNegative nodes edges last

-- only one of the two ever holds
abbrev pub OneWay : Type 0
OneWay =
    (nodes : ℕ) (edges : List NetEdge) (budget pivots : ℕ) (layers : List ℤ) (flow : List ℕ)
    → EndsInTime nodes edges budget pivots layers flow → RunsOut nodes edges budget → ⊥

-- a pivot leads from a state to a state
abbrev pub PivotKeeps : Type 0
PivotKeeps =
    (nodes : ℕ) (edges : List NetEdge) (s t : State)
    → EndsBelow nodes edges → IsState nodes edges s → pivot nodes edges s ≡ Some t → IsState nodes edges t

-- there is a pivot where a cut value is negative, and none elsewhere
abbrev pub PivotGoesOn : Type 0
PivotGoesOn =
    (nodes : ℕ) (edges : List NetEdge) (s : State) → HasNegative nodes edges s → (t : State) × (pivot nodes edges s ≡ Some t)

abbrev pub PivotEnds : Type 0
PivotEnds = (nodes : ℕ) (edges : List NetEdge) (s : State) → NoneNegative nodes edges s → pivot nodes edges s ≡ None

-- a tree of tight edges on the reached nodes, which grows
pub record IsGrowing (nodes : ℕ) (edges : List NetEdge) (g : Growing) : Type 0 where
  pub layer_for_each : length g.layers ≡ nodes
  pub mark_for_each : length g.tree ≡ length edges
  pub reach_for_each : length g.reached ≡ nodes
  pub layering : IsLayering edges g.layers
  pub tight : (k : ℕ) → k < length edges → is_marked g.tree k ≡ true → IsTightEdge g.layers (edge_at edges k)
  pub ends_in : (k : ℕ) → k < length edges → is_marked g.tree k ≡ true
      → (is_in g.reached (edge_at edges k).tail ≡ true) × (is_in g.reached (edge_at edges k).head ≡ true)
  pub spans : (v : ℕ) → is_in g.reached v ≡ true → Linked edges g.tree 0 v
  pub cuts : (k : ℕ) → k < length edges → is_marked g.tree k ≡ true → (inside : ℕ → Bool) × IsCut edges g.tree k inside

-- one more edge keeps it
abbrev pub GrowthKeeps : Type 0
GrowthKeeps =
    (nodes : ℕ) (edges : List NetEdge) (g : Growing) → EndsBelow nodes edges → IsGrowing nodes edges g
    → IsGrowing nodes edges (grown_once edges g)
