-- Links with the ranks of their ends.
use Rattle.std.specs.Prelude.{◌≡◌, ℕ, ◌<◌, ◌≤◌, Bool, List, [], ℤ, length}
use Rattle.std.specs.List.{list_any}
use Rattle.port_order.specs.declared.children.Child.{Child}
use Rattle.elk_layers.specs.declared.units.Link.{Link}
use Rattle.elk_layers.specs.Layered.{AreRows, IsSound, Plain, link_at}
use Rattle.level_model.specs.Level.{Orders, PlainLevel, PlainPlan}
use Rattle.level_model.specs.Units.{AreLinked, AreOrders, head_rank, is_fixed, tail_rank}
use Rattle.layer_units.specs.Alike.{AreAlike}

-- a plan with these units and links, rows, tops and reversed edges
abbrev pub plan_of : Plain → List (List ℕ) → List ℤ → List ℕ → PlainPlan
plan_of a rows tops reversed = record { layers = a.layers; layered = a; rows = rows; tops = tops; reversed = reversed }

-- the ends of a link have their ranks under the orders of the level's sides
pub record HasRanks (l : PlainLevel) (p : PlainPlan) (o : Orders) (k : ℕ) : Type 0 where
  pub tail : (link_at p.layered.links k).tail_rank ≡ tail_rank l p o k
  pub head : (link_at p.layered.links k).head_rank ≡ head_rank l p o k

-- So they do whatever the order of the rows, whatever the orders of the sides that follow from it, and wherever units stand.
abbrev pub AreRanked : PlainLevel → Plain → List ℕ → Type 0
AreRanked l a reversed =
    (rows : List (List ℕ)) (tops : List ℤ) (o : Orders) (k : ℕ) → AreOrders l (plan_of a rows tops reversed) o
    → k < length a.links → HasRanks l (plan_of a rows tops reversed) o k

-- what is not ranks stays: units, the heights of links' ends, and the distances
pub record AreReranked (a b : Plain) : Type 0 where
  pub alike : AreAlike a b
  pub units_are : b.units ≡ a.units
  pub tail_at_is : (k : ℕ) → (link_at b.links k).tail_at ≡ (link_at a.links k).tail_at
  pub head_at_is : (k : ℕ) → (link_at b.links k).head_at ≡ (link_at a.links k).head_at
  pub node_node : b.node_node ≡ a.node_node
  pub edge_node : b.edge_node ≡ a.edge_node
  pub edge_edge : b.edge_edge ≡ a.edge_edge

-- links without ranks
abbrev pub bare_link : Link → Link
bare_link k = record { edge = k.edge; tail = k.tail; head = k.head; tail_rank = 0; head_rank = 0; tail_at = k.tail_at; head_at = k.head_at }

-- of some links the first n have no ranks, and the others are as they were
pub record AreBareLinks (links : List Link) (n : ℕ) (bare : List Link) : Type 0 where
  pub as_many : length bare ≡ length links
  pub each : (k : ℕ) → k < n → link_at bare k ≡ bare_link (link_at links k)
  pub rest : (k : ℕ) → n ≤ k → link_at bare k ≡ link_at links k

-- the ports of some child are ranked
abbrev pub has_ranks : List Child → Bool
has_ranks children = list_any (λ (c : Child). is_fixed c.rule) children

-- Units and links b are units and links a with the ranks of their ends, and are still sound and those of the level.
pub record IsRanking (l : PlainLevel) (a b : Plain) (reversed : List ℕ) : Type 0 where
  pub ranks : AreRanked l b reversed
  pub sound : IsSound b
  pub rows : (rows : List (List ℕ)) → AreRows a rows → AreRows b rows
  pub linked : (from to : List (List ℕ)) (tops : List ℤ) (layers : List ℕ) → AreLinked l (plan_of a from [] reversed) layers
      → AreLinked l (plan_of b to tops reversed) layers
  pub kept : AreReranked a b
