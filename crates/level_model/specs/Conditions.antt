-- What is true of every level that is drawn.
use Rattle.std.specs.Prelude.{ℕ, ◌<◌, ◌≤◌, ◌^◌, ◌+◌, false, List, [], ◌∷◌, ℤ, pos, neg_ℤ, ◌+ℤ◌, ◌≤ℤ◌, length, map, IfSome, IsTrue, IsFalse}
use Rattle.drawing_types.specs.declared.shape.Size.{Size}
use Rattle.elk_doc.specs.Sound.{IsSoundSpacing, along}
use Rattle.drawing_types.specs.Ranges.{IsWithin}
use Rattle.elk_doc.specs.PortsKept.{size_along}
use Rattle.elk_layers.specs.Layered.{plain, rows_of}
use Rattle.elk_layers.specs.declared.units.Layered.{Layered}
use Rattle.elk_layers.specs.declared.units.Order.{Order}
use Rattle.port_order.specs.declared.children.ChildPort.{ChildPort}
use Rattle.port_order.specs.declared.children.Child.{Child}
use Rattle.port_order.specs.Child.{port_at, is_pinned}
use Rattle.port_order.specs.Sides.{given_side, side_else}
use Rattle.port_order.specs.Conditions.{IsChild}
use Rattle.level_model.specs.declared.level.EdgeEnd.{EdgeEnd}
use Rattle.level_model.specs.declared.level.LevelIn.{LevelIn}
use Rattle.level_model.specs.Level.{PlainLevel, PlainPlan, child_at, edge_at}

-- a level, and what it is drawn from, as plain data
abbrev pub plain_level : LevelIn → PlainLevel
plain_level l = record { children = l.children; edges = l.edges; spacing = l.spacing; choices = l.choices }

abbrev pub plain_plan : Layered → Order → List ℤ → List ℕ → PlainPlan
plain_plan layered order tops reversed =
    record { layers = layered.layers; layered = plain layered; rows = rows_of order; tops = tops; reversed = reversed }

-- the widths and the heights of these children and their ports together
abbrev pub sum_of_ints : List ℤ → ℤ
sum_of_ints [] = pos 0
sum_of_ints (z ∷ zs) = z +ℤ sum_of_ints zs

abbrev pub sizes_of : Child → List Size
sizes_of c = c.size ∷ map (λ (q : ChildPort). q.size) c.ports

abbrev pub total_width : List Child → ℤ
total_width [] = pos 0
total_width (c ∷ cs) = sum_of_ints (map (λ (s : Size). s.width) (sizes_of c)) +ℤ total_width cs

abbrev pub total_height : List Child → ℤ
total_height [] = pos 0
total_height (c ∷ cs) = sum_of_ints (map (λ (s : Size). s.height) (sizes_of c)) +ℤ total_height cs

abbrev pub total_ports : List Child → ℕ
total_ports [] = 0
total_ports (c ∷ cs) = length c.ports + total_ports cs

-- from -2^21 to this length and 2^21 more
abbrev pub IsNear : ℤ → ℤ → Type 0
IsNear length z = IsWithin (neg_ℤ (pos (2 ^ 21))) (length +ℤ pos (2 ^ 21)) z

-- The given place of a leaf's port is near its box, and that of a pinned port is near it along its side.
pub record IsNearPort (c : Child) (k : ℕ) : Type 0 where
  pub leaf_x : IsFalse c.compound → IsNear c.size.width (port_at c k).place.x
  pub leaf_y : IsFalse c.compound → IsNear c.size.height (port_at c k).place.y
  pub pinned : IsTrue (is_pinned c k)
      → IsNear (size_along (side_else (given_side c k) false) c.size) (along (side_else (given_side c k) false) (port_at c k).place)

pub record IsLevelChild (c : Child) : Type 0 where
  pub sound : IsChild c
  pub near : (k : ℕ) → k < length c.ports → IsNearPort c k

-- an end names a child and one of its ports, or none
pub record IsSpoke (l : PlainLevel) (s : EdgeEnd) : Type 0 where
  pub child : s.child < length l.children
  pub port : IfSome s.port (λ k. k < length (child_at l s.child).ports)

pub record IsLevelEdge (l : PlainLevel) (e : ℕ) : Type 0 where
  pub source : IsSpoke l (edge_at l e).source
  pub target : IsSpoke l (edge_at l e).target
  pub weight_above : 1 ≤ (edge_at l e).weight
  pub weight_below : (edge_at l e).weight ≤ 2 ^ 20

-- what is true of every level
pub record IsLevel (l : PlainLevel) : Type 0 where
  pub few_children : length l.children ≤ 2048
  pub few_ports : total_ports l.children ≤ 4096
  pub few_edges : length l.edges ≤ 2048
  pub children : (c : ℕ) → c < length l.children → IsLevelChild (child_at l c)
  pub edges : (e : ℕ) → e < length l.edges → IsLevelEdge l e
  pub spacing : IsSoundSpacing l.spacing
  pub widths : total_width l.children ≤ℤ pos (2 ^ 46)
  pub heights : total_height l.children ≤ℤ pos (2 ^ 46)
