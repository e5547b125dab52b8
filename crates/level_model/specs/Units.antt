-- Units and links come from the level: a unit for each child, lanes for long edges, a chain of links for each edge.
use Rattle.std.specs.Prelude.{◌≡◌, ◌⊎◌, ℕ, ◌+◌, ◌-◌, ◌<◌, cond, Bool, true, false, not, ◌&&◌, ◌||◌, List, pos, Option, None, Some, length}
use Rattle.std.specs.Prelude.{slice_index_or, int_lt, IsFalse}
use Rattle.std.specs.Ordering.{int_eq}
use Rattle.std.specs.List.{filter, range_with_len}
use Rattle.drawing_types.specs.declared.shape.Side.{Side}
use Rattle.drawing_types.specs.declared.shape.Side.TheVariants.{North, East, South, West}
use Rattle.elk_doc.specs.declared.document.PortRule.{PortRule}
use Rattle.elk_doc.specs.declared.document.PortRule.TheVariants.{Free, FixedSide, FixedOrder, FixedPos}
use Rattle.drawing_types.specs.Shapes.{is_side}
use Rattle.elk_layers.specs.Layered.{unit_at, link_at, is_child}
use Rattle.port_order.specs.declared.children.Child.{Child}
use Rattle.port_order.specs.Child.{is_pinned}
use Rattle.port_order.specs.Sides.{side_of}
use Rattle.port_order.specs.Order.{IsOrderOfSide}
use Rattle.port_order.specs.Places.{place_in}
use Rattle.self_loops.specs.Loops.{is_upright}
use Rattle.level_model.specs.Level.{PlainLevel, PlainPlan, Orders, End, child_at, spoke, spots, port_spot, enters, tail_end, head_end}
use Rattle.level_model.specs.Level.{is_loop, dock_of, dock_of_spot, outline}
use Rattle.level_model.specs.Lanes.{lanes, body_top, unit_height, lane_side}
use Rattle.level_model.specs.Nets.{is_inverted, unit_of, layer_of_child, tail_line, head_line, below_top}
use Rattle.level_model.specs.Traces.{chain}

-- the orders of all sides, by the rules of ports
abbrev pub AreOrders : PlainLevel → PlainPlan → Orders → Type 0
AreOrders l p o =
    (c : ℕ) (side : Side) → c < length l.children → IsOrderOfSide (child_at l c) side (spots l p c) (o c side)

-- a child's unit: one alone, in the child's layer
pub record IsUnitOf (p : PlainPlan) (layer c : ℕ) : Type 0 where
  pub in_range : unit_of p c < length p.layered.units
  pub child : (unit_at p.layered.units (unit_of p c)).child ≡ Some c
  pub alone : (u : ℕ) → u < length p.layered.units → (unit_at p.layered.units u).child ≡ Some c → u ≡ unit_of p c
  pub layer_is : layer_of_child p c ≡ layer

-- it has room for the child's lanes above and below its outline
pub record HasRoom (l : PlainLevel) (p : PlainPlan) (o : Orders) (c : ℕ) : Type 0 where
  pub height : (unit_at p.layered.units (unit_of p c)).height ≡ unit_height l p o c
  pub top : (unit_at p.layered.units (unit_of p c)).body_top ≡ body_top l p o c
  pub body : (unit_at p.layered.units (unit_of p c)).body_height ≡ (outline l p o c).height
  pub north : (unit_at p.layered.units (unit_of p c)).north ≡ length (lanes l p o c North)
  pub south : (unit_at p.layered.units (unit_of p c)).south ≡ length (lanes l p o c South)

-- a lane of a long edge: a unit of height 0 without a child, that one link enters
pub record IsLaneUnit (p : PlainPlan) (u : ℕ) : Type 0 where
  pub no_child : (unit_at p.layered.units u).child ≡ None
  pub flat : (unit_at p.layered.units u).height ≡ pos 0
  pub entered : (k : ℕ) × (k < length p.layered.links) × ((link_at p.layered.links k).head ≡ u)
  pub once : (j k : ℕ) → j < length p.layered.links → k < length p.layered.links → (link_at p.layered.links j).head ≡ u
      → (link_at p.layered.links k).head ≡ u → j ≡ k

abbrev pub chain_at : PlainPlan → ℕ → ℕ → ℕ
chain_at p e i = slice_index_or (chain p e) i 0

-- the links of an edge: one per gap between its layers, from the unit of its tail over lanes to the unit of its head
pub record HasChain (l : PlainLevel) (p : PlainPlan) (e : ℕ) : Type 0 where
  pub long : layer_of_child p (spoke l (tail_end p e)).child + length (chain p e) ≡ layer_of_child p (spoke l (head_end p e)).child
  pub some : 0 < length (chain p e)
  pub from : (link_at p.layered.links (chain_at p e 0)).tail ≡ unit_of p (spoke l (tail_end p e)).child
  pub to : (link_at p.layered.links (chain_at p e (length (chain p e) - 1))).head ≡ unit_of p (spoke l (head_end p e)).child
  pub joined : (i : ℕ) → i + 1 < length (chain p e)
      → (link_at p.layered.links (chain_at p e i)).head ≡ (link_at p.layered.links (chain_at p e (i + 1))).tail
  pub lanes : (i : ℕ) → i + 1 < length (chain p e) → IsLaneUnit p (link_at p.layered.links (chain_at p e i)).head

-- each link is one of the chain of an edge that is no self-loop
pub record IsLinkOf (l : PlainLevel) (p : PlainPlan) (k : ℕ) : Type 0 where
  pub edge_in : (link_at p.layered.links k).edge < length l.edges
  pub no_loop : IsFalse (is_loop l (link_at p.layered.links k).edge)

-- Units and links are those of the level, whatever their heights, pins and ranks: a unit for each child, in the layer that is
-- listed for it, lanes, and a chain for each edge that is no self-loop.
pub record AreLinked (l : PlainLevel) (p : PlainPlan) (layers : List ℕ) : Type 0 where
  pub children : (c : ℕ) → c < length l.children → IsUnitOf p (slice_index_or layers c 0) c
  pub units : (u : ℕ) → u < length p.layered.units → (IsLaneUnit p u) ⊎ ((c : ℕ) × (c < length l.children) × (u ≡ unit_of p c))
  pub chains : (e : ℕ) → e < length l.edges → IsFalse (is_loop l e) → HasChain l p e
  pub links : (k : ℕ) → k < length p.layered.links → IsLinkOf l p k

-- the ports of a child on a link's side: under fixed positions the pinned ones
abbrev pub link_side : PlainPlan → End → Side
link_side p n = cond (enters p n) West East

abbrev pub ports_on : PlainLevel → PlainPlan → ℕ → Side → List ℕ
ports_on l p c side =
    filter (λ k. is_side (side_of (child_at l c) (port_spot l p c k)) side) (range_with_len 0 (length (child_at l c).ports))

abbrev pub pinned_on : PlainLevel → PlainPlan → ℕ → Side → List ℕ
pinned_on l p c side = filter (is_pinned (child_at l c)) (ports_on l p c side)

-- port j has a smaller offset than port k, or the same and a smaller number
abbrev pub offset_first : PlainLevel → PlainPlan → Orders → ℕ → ℕ → ℕ → Bool
offset_first l p o c j k =
    int_lt (dock_of_spot l o c (port_spot l p c j)).offset (dock_of_spot l o c (port_spot l p c k)).offset
    || (int_eq (dock_of_spot l o c (port_spot l p c j)).offset (dock_of_spot l o c (port_spot l p c k)).offset && int_lt (pos j) (pos k))

-- the number of ranked ports, and the rank of a port from 1 on, or one more than the last where it has none
abbrev pub last_rank : PlainLevel → PlainPlan → ℕ → Side → PortRule → ℕ
last_rank l p c side FixedOrder = length (ports_on l p c side)
last_rank l p c side FixedPos = length (pinned_on l p c side)
last_rank l p c side _ = 0

abbrev pub port_rank : PlainLevel → PlainPlan → Orders → ℕ → Side → PortRule → Option ℕ → Bool → ℕ
port_rank l p o c side FixedOrder (Some k) pinned = place_in (o c side) k + 1
port_rank l p o c side FixedPos (Some k) true = length (filter (λ j. offset_first l p o c j k) (pinned_on l p c side)) + 1
port_rank l p o c side rule port pinned = last_rank l p c side rule + 1

-- the rank of an end that lies on a lane: 0 north, two more than the last south; a spread port under fixed positions has
-- the rank of an implicit end
abbrev pub lane_rank : ℕ → Side → ℕ
lane_rank last North = 0
lane_rank last _ = last + 2

abbrev pub is_fixed : PortRule → Bool
is_fixed Free = false
is_fixed FixedSide = false
is_fixed FixedOrder = true
is_fixed FixedPos = true

abbrev pub is_spread_fixed : PortRule → Option ℕ → Bool → Bool
is_spread_fixed FixedPos (Some k) pinned = not pinned
is_spread_fixed _ _ _ = false

abbrev pub is_pinned_port : Child → Option ℕ → Bool
is_pinned_port c None = false
is_pinned_port c (Some k) = is_pinned c k

abbrev pub rank_of_end : PlainLevel → PlainPlan → Orders → End → ℕ
rank_of_end l p o n =
    let c = (spoke l n).child in
    let rule = (child_at l c).rule in
    let port = (spoke l n).port in
    let pinned = is_pinned_port (child_at l c) port in
    let last = last_rank l p c (link_side p n) rule in
    cond (not (is_fixed rule)) 0
    (cond (is_spread_fixed rule port pinned) (last + 1)
    (cond (is_upright (dock_of l p o n).side || is_inverted l p o n) (lane_rank last (lane_side l (dock_of l p o n)))
    (port_rank l p o c (link_side p n) rule port pinned)))

abbrev pub tail_rank : PlainLevel → PlainPlan → Orders → ℕ → ℕ
tail_rank l p o k =
    cond (is_child p.layered (link_at p.layered.links k).tail) (rank_of_end l p o (tail_end p (link_at p.layered.links k).edge)) 0

abbrev pub head_rank : PlainLevel → PlainPlan → Orders → ℕ → ℕ
head_rank l p o k =
    cond (is_child p.layered (link_at p.layered.links k).head) (rank_of_end l p o (head_end p (link_at p.layered.links k).edge)) 0

-- the pins and ranks of a link's ends
pub record HasPins (l : PlainLevel) (p : PlainPlan) (o : Orders) (k : ℕ) : Type 0 where
  pub tail_at : (link_at p.layered.links k).tail_at ≡ below_top l p o (tail_line l p o k)
  pub head_at : (link_at p.layered.links k).head_at ≡ below_top l p o (head_line l p o k)
  pub tail_rank_is : (link_at p.layered.links k).tail_rank ≡ tail_rank l p o k
  pub head_rank_is : (link_at p.layered.links k).head_rank ≡ head_rank l p o k

-- Units, links, pins and ranks are those of the level, under the orders of its sides.
pub record AreUnits (l : PlainLevel) (p : PlainPlan) (o : Orders) (layers : List ℕ) : Type 0 where
  pub orders : AreOrders l p o
  pub linked : AreLinked l p layers
  pub rooms : (c : ℕ) → c < length l.children → HasRoom l p o c
  pub pins : (k : ℕ) → k < length p.layered.links → HasPins l p o k
  pub node_node : p.layered.node_node ≡ l.spacing.node_node
  pub edge_node : p.layered.edge_node ≡ l.spacing.edge_node
  pub edge_edge : p.layered.edge_edge ≡ l.spacing.edge_edge
