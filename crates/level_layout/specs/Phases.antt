-- What the phases of a level's layout hand on.
use Rattle.std.specs.Prelude.{◌≡◌, ◌≤◌, ℕ, List, ℤ, length}
use Rattle.elk_doc.specs.declared.drawing.Certificate.{Certificate}
use Rattle.elk_layers.specs.declared.units.Layered.{Layered}
use Rattle.elk_layers.specs.Layered.{Plain, plain, IsSound}
use Rattle.level_model.specs.Level.{PlainLevel}
use Rattle.level_model.specs.Units.{AreLinked}
use Rattle.layer_units.specs.Layering.{IsLayerCount, layering, plan_with}
use Rattle.layer_units.specs.Numbered.{AreNumberedUnits}
use Rattle.layer_units.specs.Started.{AreAscending}
use Rattle.layer_units.specs.Alike.{AreAlike, LanesStay}
use Rattle.layer_units.specs.Ranked.{AreRanked}

-- Units and links whose numbers, layers and ends are those of a level's children and edges, from the tail of each edge on. The
-- units of lanes have no height, and no lanes above or below.
abbrev pub AreNumberedAs : PlainLevel → Certificate → Plain → Type 0
AreNumberedAs l c v = (blank : Plain) × AreNumberedUnits (layering l c.reversed c.layers) blank × AreAlike blank v × LanesStay blank v

-- The units and links of a level with the ranks of pins, still without heights and pins.
pub record AreRankedUnits (l : PlainLevel) (c : Certificate) (v : Layered) : Type 0 where
  pub linked : (rows : List (List ℕ)) (tops : List ℤ) → AreLinked l (plan_with v rows tops c.reversed) c.layers
  pub sound : IsSound (plain v)
  pub numbered : AreNumberedAs l c (plain v)
  pub ranked : AreRanked l (plain v) c.reversed
  pub layers : IsLayerCount c.layers v.layers
  pub few_layers : v.layers ≤ 2048
  pub node_node : v.node_node ≡ l.spacing.node_node
  pub edge_node : v.edge_node ≡ l.spacing.edge_node
  pub edge_edge : v.edge_edge ≡ l.spacing.edge_edge

-- rows in the order of numbers
abbrev pub IsStart : Plain → List (List ℕ) → Type 0
IsStart v rows = AreAscending v.units v.layers (length v.units) rows
