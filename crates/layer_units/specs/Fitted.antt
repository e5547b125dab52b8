-- Units and links with heights and pins.
use Rattle.std.specs.Prelude.{◌≡◌, ℕ, ◌<◌, List, length}
use Rattle.elk_layers.specs.Layered.{Plain, link_at}
use Rattle.level_model.specs.Level.{Orders, PlainLevel, PlainPlan}
use Rattle.level_model.specs.Nets.{below_top, head_line, tail_line}
use Rattle.level_model.specs.Units.{AreLinked, AreOrders, HasRoom}
use Rattle.layer_units.specs.Alike.{AreAlike, LanesStay}

-- Units and links are those of the level, with the heights and pins that they have under the orders of its sides. Nothing is
-- said of the ranks of pins.
pub record AreFitted (l : PlainLevel) (p : PlainPlan) (o : Orders) (layers : List ℕ) : Type 0 where
  pub orders : AreOrders l p o
  pub linked : AreLinked l p layers
  pub rooms : (c : ℕ) → c < length l.children → HasRoom l p o c
  pub tails : (k : ℕ) → k < length p.layered.links → (link_at p.layered.links k).tail_at ≡ below_top l p o (tail_line l p o k)
  pub heads : (k : ℕ) → k < length p.layered.links → (link_at p.layered.links k).head_at ≡ below_top l p o (head_line l p o k)
  pub node_node : p.layered.node_node ≡ l.spacing.node_node
  pub edge_node : p.layered.edge_node ≡ l.spacing.edge_node
  pub edge_edge : p.layered.edge_edge ≡ l.spacing.edge_edge

-- what is not heights and pins stays: units and links, lanes of long edges whole, the ranks of pins, and the distances
pub record AreKept (a b : Plain) : Type 0 where
  pub alike : AreAlike a b
  pub lanes : LanesStay a b
  pub tail_rank_is : (k : ℕ) → (link_at b.links k).tail_rank ≡ (link_at a.links k).tail_rank
  pub head_rank_is : (k : ℕ) → (link_at b.links k).head_rank ≡ (link_at a.links k).head_rank
  pub node_node : b.node_node ≡ a.node_node
  pub edge_node : b.edge_node ≡ a.edge_node
  pub edge_edge : b.edge_edge ≡ a.edge_edge
