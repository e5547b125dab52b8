-- A search whose layers are raised only in its end: each reached node keeps how far the reached nodes were raised when
-- it came among them. (Dijkstra's method over slacks.)
use Rattle.std.specs.Prelude.{◌≡◌, ℕ, ◌<◌, ◌≤◌, ◌^◌, ◌-◌, Bool, true, false, ℤ, pos, ◌+ℤ◌, ◌≤ℤ◌, List, length, slice_index, set}
use Rattle.std.specs.List.{All, Contains}
use Rattle.network_laws.specs.declared.network.NetEdge.{NetEdge}
use Rattle.network_laws.specs.declared.links.End.{End}
use Rattle.network_laws.specs.Network.{edge_at}
use Rattle.network_laws.specs.Layering.{layer_of}
use Rattle.network_laws.specs.Links.{end_of}
use Rattle.network_laws.specs.Tight.{given, asked}
use Rattle.flow_dual.specs.declared.Label.{Label}
use Rattle.flow_dual.specs.declared.queue.Step.{Step}
use Rattle.flow_dual.specs.State.{marked}
use Rattle.flow_dual.specs.Labels.{label_at}
use Rattle.flow_dual.specs.Rounds.{IsRound, IsWithin, IsFound}
use Rattle.flow_dual.specs.Queue.{nearness, IsOpen, IsStepFrom}

-- the layers as they stand when each reached node is raised by what was raised since it came
pub record IsRisen (layers : List ℤ) (set : ℕ → Bool) (dist : List ℕ) (now : ℕ) (risen : List ℤ) : Type 0 where
  pub as_long : length risen ≡ length layers
  pub earlier : (v : ℕ) → set v ≡ true → slice_index dist v ≤ now
  pub within : (v : ℕ) → v < length layers → set v ≡ true → layer_of risen v +ℤ pos (slice_index dist v) ≡ layer_of layers v +ℤ pos now
  pub outside : (v : ℕ) → v < length layers → set v ≡ false → layer_of risen v ≡ layer_of layers v

-- the step leads from a reached node, and is no nearer than what was raised
pub record IsOffered (edges : List NetEdge) (layers : List ℤ) (flow : List ℕ) (set : ℕ → Bool) (dist : List ℕ) (now : ℕ)
    (t : Step) : Type 0 where
  pub is_there : t.edge < length edges
  pub no_earlier : now ≤ nearness t
  pub end : End
  pub from_reached : set (end_of end (edge_at edges t.edge)) ≡ true
  pub is_step : IsStepFrom layers (edge_at edges t.edge) (slice_index flow t.edge)
      (slice_index dist (end_of end (edge_at edges t.edge))) end (nearness t)

-- within a search that has found no node that asks for more
pub record IsSearching (nodes : ℕ) (edges : List NetEdge) (layers : List ℤ) (flow : List ℕ) (source turn now : ℕ)
    (reached : List Bool) (labels : List Label) (dist order : List ℕ) (queue : List Step) : Type 0 where
  pub risen : List ℤ
  pub tree : List Bool
  pub within : IsWithin nodes edges flow source turn risen reached labels tree
  pub rise : IsRisen layers (marked reached) dist now risen
  pub dist_each : length dist ≡ nodes
  pub first : slice_index dist source ≡ 0
  pub sound : (t : Step) → Contains queue t → IsOffered edges layers flow (marked reached) dist now t
  pub complete : (k : ℕ) (end : End) → k < length edges → marked reached (end_of end (edge_at edges k)) ≡ true
      → IsOpen (marked reached) end (edge_at edges k) (slice_index flow k) → (t : Step) × Contains queue t × (t.edge ≡ k)
  pub listed : (v : ℕ) → marked reached v ≡ true → Contains order v
  pub in_range : All (λ v. v < nodes) order

-- a search that has found its node
pub record IsSearched (nodes : ℕ) (edges : List NetEdge) (layers : List ℤ) (flow : List ℕ) (source to now : ℕ)
    (reached : List Bool) (labels : List Label) (dist order : List ℕ) : Type 0 where
  pub risen : List ℤ
  pub tree : List Bool
  pub found : IsFound nodes edges flow source to risen reached labels tree
  pub rise : IsRisen layers (marked reached) dist now risen
  pub mark_for_each : length reached ≡ nodes
  pub dist_each : length dist ≡ nodes
  pub listed : (v : ℕ) → marked reached v ≡ true → Contains order v
  pub in_range : All (λ v. v < nodes) order

-- what each node is given more than it asks
abbrev pub TellsExcess : ℕ → List NetEdge → List ℕ → List ℤ → Type 0
TellsExcess nodes edges flow excess =
    (v : ℕ) → v < nodes → pos (asked edges flow v) +ℤ layer_of excess v ≡ pos (given edges flow v)

-- no node is reached, and no label tells a way
pub record IsCleared (nodes : ℕ) (reached : List Bool) (labels : List Label) : Type 0 where
  pub mark_for_each : length reached ≡ nodes
  pub label_for_each : length labels ≡ nodes
  pub none_reached : (v : ℕ) → marked reached v ≡ false
  pub no_depth : (v : ℕ) → (label_at labels v).depth ≡ 0

-- between two searches
pub record IsBetween (nodes : ℕ) (edges : List NetEdge) (layers : List ℤ) (flow : List ℕ) (excess : List ℤ)
    (reached : List Bool) (labels : List Label) (dist : List ℕ) : Type 0 where
  pub round : IsRound nodes edges layers flow (2 ^ 62)
  pub excess_each : length excess ≡ nodes
  pub tells : TellsExcess nodes edges flow excess
  pub cleared : IsCleared nodes reached labels
  pub dist_each : length dist ≡ nodes

-- a reached node's layer fits when it is raised
abbrev pub RiseFits : List ℤ → (ℕ → Bool) → List ℕ → ℕ → Type 0
RiseFits layers set dist now =
    (v : ℕ) → v < length layers → set v ≡ true → (layer_of layers v +ℤ pos now) ≤ℤ (pos (slice_index dist v) +ℤ pos (2 ^ 63 - 1))

abbrev pub IsEarlier : (ℕ → Bool) → List ℕ → ℕ → Type 0
IsEarlier set dist now = (v : ℕ) → set v ≡ true → slice_index dist v ≤ now

-- the first nodes of the list are raised, and no longer reached
pub record IsSettled (layers : List ℤ) (reached : List Bool) (labels : List Label) (dist : List ℕ) (now : ℕ) (order : List ℕ)
    (i : ℕ) (layers' : List ℤ) (reached' : List Bool) (labels' : List Label) : Type 0 where
  pub layer_each : length layers' ≡ length layers
  pub mark_each : length reached' ≡ length reached
  pub label_each : length labels' ≡ length labels
  pub same_rise : (risen : List ℤ) → IsRisen layers (marked reached) dist now risen → IsRisen layers' (marked reached') dist now risen
  pub fits : RiseFits layers (marked reached) dist now → RiseFits layers' (marked reached') dist now
  pub earlier : IsEarlier (marked reached) dist now → IsEarlier (marked reached') dist now
  pub kept : (v : ℕ) → v < length layers → marked reached' v ≡ true → layer_of layers' v ≡ layer_of layers v
  pub done : (j : ℕ) → j < i → marked reached' (slice_index order j) ≡ false
  pub still : (v : ℕ) → marked reached v ≡ false → marked reached' v ≡ false
  pub no_depth : ((v : ℕ) → marked reached v ≡ false → (label_at labels v).depth ≡ 0) → (v : ℕ) → marked reached' v ≡ false
      → (label_at labels' v).depth ≡ 0

-- the source is reached, over no edge
pub record Begins (reached : List Bool) (labels : List Label) (dist : List ℕ) (source room : ℕ) (reached' : List Bool)
    (labels' : List Label) (dist' : List ℕ) : Type 0 where
  pub marks : reached' ≡ set reached source true
  pub label : labels' ≡ set labels source (record { parent = 0; depth = 0; room = room })
  pub first : dist' ≡ set dist source 0
