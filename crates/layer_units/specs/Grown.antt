-- The lists of units and links, as they grow edge by edge.
use Rattle.std.specs.Prelude.{◌≡◌, ℕ, zero, suc, ◌<◌, ◌≤◌, ◌^◌, List, [], ◌∷◌, ◌++◌, length}
use Rattle.elk_layers.specs.declared.units.Unit.{Unit as LayerUnit}
use Rattle.elk_layers.specs.declared.units.Link.{Link}
use Rattle.elk_layers.specs.Layered.{Plain}
use Rattle.layer_units.specs.declared.runs.Run.{Run}
use Rattle.layer_units.specs.Layering.{Layering, IsLayerCount, layer_in}
use Rattle.layer_units.specs.Numbered.{child_unit, lane_on, link_on, gaps_of, lanes_of, run_of}

-- a list with the first n values of f behind it
unfoldable pub grown : {X : Type 0} → (ℕ → X) → List X → ℕ → List X
grown f xs zero = xs
grown f xs (suc n) = grown f xs n ++ f n ∷ []

-- the same with the first values of each of several
unfoldable pub all_grown : {X : Type 0} → (ℕ → ℕ → X) → (ℕ → ℕ) → List X → ℕ → List X
all_grown f count xs zero = xs
all_grown f count xs (suc e) = grown (f e) (all_grown f count xs e) (count e)

abbrev pub child_units : List ℕ → ℕ → List LayerUnit
child_units layers n = grown (λ c. child_unit (layer_in layers c) c) [] n

-- the units and the links up to an edge
abbrev pub units_to : Layering → ℕ → List LayerUnit
units_to s e = all_grown (λ d i. lane_on (run_of s d) i) (lanes_of s) (child_units s.layers (length s.layers)) e

abbrev pub links_to : Layering → ℕ → List Link
links_to s e = all_grown (λ d i. link_on (run_of s d) i) (gaps_of s) [] e

-- a run whose numbers are small
pub record IsShort (run : Run) : Type 0 where
  pub low_layer : run.layer < 2048
  pub few_gaps : run.gaps < 2048
  pub small_first : run.first ≤ 2 ^ 23

-- the units and links of all edges, and what comes with them
pub record AreGrown (s : Layering) (p : Plain) : Type 0 where
  pub units_are : p.units ≡ units_to s (length s.level.edges)
  pub links_are : p.links ≡ links_to s (length s.level.edges)
  pub count_is : IsLayerCount s.layers p.layers
  pub node_node_is : p.node_node ≡ s.level.spacing.node_node
  pub edge_node_is : p.edge_node ≡ s.level.spacing.edge_node
  pub edge_edge_is : p.edge_edge ≡ s.level.spacing.edge_edge
