-- One augmentation, and all of one node.
use Rattle.std.specs.Prelude.{◌≡◌, ◌≢◌, ℕ, ◌<◌, Bool, ℤ, pos, ◌+ℤ◌, ◌≤ℤ◌, ◌<ℤ◌, List, length}
use Rattle.std.specs.List.{Contains}
use Rattle.network_laws.specs.declared.network.NetEdge.{NetEdge}
use Rattle.network_laws.specs.Layering.{layer_of}
use Rattle.flow_dual.specs.declared.Label.{Label}
use Rattle.flow_dual.specs.declared.sources.Source.{Source}
use Rattle.flow_dual.specs.Searching.{IsBetween}

-- the amount is moved from one node's excess to another's
pub record MovesExcess (old : List ℤ) (source to amount : ℕ) (new : List ℤ) : Type 0 where
  pub as_long : length new ≡ length old
  pub at_source : layer_of new source +ℤ pos amount ≡ layer_of old source
  pub at_end : layer_of new to ≡ layer_of old to +ℤ pos amount
  pub others : (v : ℕ) → v ≢ source → v ≢ to → layer_of new v ≡ layer_of old v

-- a node without a surplus gets none
abbrev pub NoNewSurplus : ℕ → List ℤ → List ℤ → Type 0
NoNewSurplus source old new = (v : ℕ) → v ≢ source → layer_of old v ≤ℤ pos 0 → layer_of new v ≤ℤ pos 0

-- the surplus of one node is less, and no other node has a new one
pub record IsAugmented (nodes : ℕ) (edges : List NetEdge) (source : ℕ) (old : List ℤ) (layers : List ℤ) (flow : List ℕ)
    (excess : List ℤ) (reached : List Bool) (labels : List Label) (dist : List ℕ) : Type 0 where
  pub between : IsBetween nodes edges layers flow excess reached labels dist
  pub falls : layer_of excess source <ℤ layer_of old source
  pub from_zero : pos 0 ≤ℤ layer_of excess source
  pub others : NoNewSurplus source old excess

-- one node has no surplus left
pub record IsDrained (nodes : ℕ) (edges : List NetEdge) (source : ℕ) (old : List ℤ) (layers : List ℤ) (flow : List ℕ)
    (excess : List ℤ) (reached : List Bool) (labels : List Label) (dist : List ℕ) : Type 0 where
  pub between : IsBetween nodes edges layers flow excess reached labels dist
  pub none_left : layer_of excess source ≤ℤ pos 0
  pub others : NoNewSurplus source old excess

-- so far, while one node is drained
pub record IsDraining (nodes : ℕ) (edges : List NetEdge) (source : ℕ) (old : List ℤ) (layers : List ℤ) (flow : List ℕ)
    (excess : List ℤ) (reached : List Bool) (labels : List Label) (dist : List ℕ) : Type 0 where
  pub between : IsBetween nodes edges layers flow excess reached labels dist
  pub others : NoNewSurplus source old excess

-- each node with a surplus waits in the list
pub record AreWaiting (nodes : ℕ) (excess : List ℤ) (sources : List Source) : Type 0 where
  pub in_range : (s : Source) → Contains sources s → s.node < nodes
  pub waits : (v : ℕ) → v < nodes → pos 0 <ℤ layer_of excess v → (s : Source) × Contains sources s × (s.node ≡ v)

-- between two nodes that are drained, while these sources wait
pub record IsDrainingAll (nodes : ℕ) (edges : List NetEdge) (sources : List Source) (layers : List ℤ) (flow : List ℕ)
    (excess : List ℤ) (reached : List Bool) (labels : List Label) (dist : List ℕ) : Type 0 where
  pub between : IsBetween nodes edges layers flow excess reached labels dist
  pub waiting : AreWaiting nodes excess sources

-- no node has a surplus
pub record AreDrained (nodes : ℕ) (edges : List NetEdge) (layers : List ℤ) (flow : List ℕ) (excess : List ℤ)
    (reached : List Bool) (labels : List Label) (dist : List ℕ) : Type 0 where
  pub between : IsBetween nodes edges layers flow excess reached labels dist
  pub none_left : (v : ℕ) → v < nodes → layer_of excess v ≤ℤ pos 0
