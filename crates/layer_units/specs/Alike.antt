-- Orders and tables do not depend on heights, pins and ranks.
use Rattle.std.specs.Prelude.{◌≡◌, ℕ, List, ℤ, pos, None, length}
use Rattle.elk_layers.specs.Layered.{Plain, unit_at, link_at}
use Rattle.level_model.specs.declared.table.Table.{Table}
use Rattle.level_model.specs.Level.{Orders, PlainLevel, PlainPlan}
use Rattle.level_model.specs.Table.{IsTable}
use Rattle.level_model.specs.Units.{AreLinked, AreOrders, head_rank, tail_rank}

-- the same units and links, whatever their heights, pins and ranks
pub record AreAlike (a b : Plain) : Type 0 where
  pub layers_are : b.layers ≡ a.layers
  pub as_many_units : length b.units ≡ length a.units
  pub as_many_links : length b.links ≡ length a.links
  pub layer_is : (u : ℕ) → (unit_at b.units u).layer ≡ (unit_at a.units u).layer
  pub child_is : (u : ℕ) → (unit_at b.units u).child ≡ (unit_at a.units u).child
  pub edge_is : (k : ℕ) → (link_at b.links k).edge ≡ (link_at a.links k).edge
  pub tail_is : (k : ℕ) → (link_at b.links k).tail ≡ (link_at a.links k).tail
  pub head_is : (k : ℕ) → (link_at b.links k).head ≡ (link_at a.links k).head

-- lanes of long edges take no room
abbrev pub AreFlat : Plain → Type 0
AreFlat a = (u : ℕ) → (unit_at a.units u).child ≡ None → (unit_at a.units u).height ≡ pos 0

-- the units of lanes of long edges stay as they are
abbrev pub LanesStay : Plain → Plain → Type 0
LanesStay a b = (u : ℕ) → (unit_at a.units u).child ≡ None → unit_at b.units u ≡ unit_at a.units u

-- a plan with these units and links, and with these tops
abbrev pub with_layered : PlainPlan → Plain → List ℤ → PlainPlan
with_layered p v tops = record { layers = v.layers; layered = v; rows = p.rows; tops = tops; reversed = p.reversed }

-- orders, tables, ranks and the way in which units are linked are the same for all plans with the same units and links
pub record ReadNoHeights : Type 0 where
  pub orders : (l : PlainLevel) (p : PlainPlan) (v : Plain) (tops : List ℤ) (o : Orders) → AreAlike p.layered v
      → AreOrders l p o → AreOrders l (with_layered p v tops) o
  pub table : (l : PlainLevel) (p : PlainPlan) (v : Plain) (tops : List ℤ) (o : Orders) (t : Table) → AreAlike p.layered v
      → IsTable l p o t → IsTable l (with_layered p v tops) o t
  pub linked : (l : PlainLevel) (p : PlainPlan) (v : Plain) (tops : List ℤ) (layers : List ℕ) → AreAlike p.layered v
      → p.layers ≡ p.layered.layers → AreFlat v
      → AreLinked l p layers → AreLinked l (with_layered p v tops) layers
  pub tail_rank_is : (l : PlainLevel) (p : PlainPlan) (v : Plain) (tops : List ℤ) (o : Orders) (k : ℕ) → AreAlike p.layered v
      → tail_rank l (with_layered p v tops) o k ≡ tail_rank l p o k
  pub head_rank_is : (l : PlainLevel) (p : PlainPlan) (v : Plain) (tops : List ℤ) (o : Orders) (k : ℕ) → AreAlike p.layered v
      → head_rank l (with_layered p v tops) o k ≡ head_rank l p o k
