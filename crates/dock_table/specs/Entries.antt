-- The entries of a table, as they are worked out from docks and lanes.
use Rattle.std.specs.Prelude.{◌≡◌, ℕ, ◌+◌, ◌*◌, ◌<◌, ◌≤◌, ◌^◌, List, pos, length, slice_index, slice_index_or}
use Rattle.std.specs.List.{All, range_with_len}
use Rattle.drawing_types.specs.declared.shape.Side.TheVariants.{North, South}
use Rattle.drawing_types.specs.declared.shape.Dock.{Dock}
use Rattle.port_order.specs.declared.children.Child.{Child}
use Rattle.port_order.specs.declared.spots.Spot.{Spot}
use Rattle.port_order.specs.Places.{anchor_at, place_of_port}
use Rattle.level_model.specs.declared.level.EdgeEnd.{EdgeEnd}
use Rattle.level_model.specs.declared.table.ChildAt.{ChildAt}
use Rattle.level_model.specs.declared.table.EndAt.{EndAt}
use Rattle.level_model.specs.declared.table.LoopAt.{LoopAt}
use Rattle.level_model.specs.Conditions.{IsLevel}
use Rattle.level_model.specs.Level.{PlainLevel, PlainPlan, child_at, edge_at}
use Rattle.level_model.specs.Table.{child_in, end_in, loop_in}
use Rattle.dock_table.specs.Bounds.{IsEndIn, IsLoopIn}
use Rattle.level_model.specs.Lanes.{height_by}
use Rattle.dock_table.specs.Lanes.{AreDockLanes, AreReadable, PlainLanes, height_or, lane_place_in, lane_side_in, lanes_at}
use Rattle.dock_table.specs.Narrow.{IsNearRect, IsOffset}
use Rattle.dock_table.specs.Outlines.{dock_in, outline_by}
use Rattle.dock_table.specs.declared.spots.Spots.{Spots}
use Rattle.dock_table.specs.Rows.{AreSpotsOf, row_at, row_lists}
use Rattle.dock_table.specs.Sides.{AreDocks, AreOrdersTo, FourOrders, docks_at}
use Rattle.elk_layers.specs.Layered.{Plain}

-- so many lanes at each child
pub record HaveFew (count : ℕ) (counts : List ℕ) : Type 0 where
  pub as_many : length counts ≡ count
  pub few : (c : ℕ) → c < count → slice_index counts c ≤ 2 ^ 16

-- by child, docks for its ports and more
pub record HaveDocks (l : PlainLevel) (lists : List (List Dock)) : Type 0 where
  pub as_many : length lists ≡ length l.children
  pub ports : (c : ℕ) → c < length l.children → length (child_at l c).ports ≤ length (docks_at lists c)
  pub offsets : (c : ℕ) → c < length l.children → All (λ (d : Dock). IsOffset d.offset) (docks_at lists c)

-- by child, as many spots as docks
pub record HaveSpots (l : PlainLevel) (lists : List (List Dock)) (rows : List (List Spot)) : Type 0 where
  pub as_many : length rows ≡ length l.children
  pub same : (c : ℕ) → c < length l.children → length (row_at rows c) ≡ length (docks_at lists c)
  pub few : (c : ℕ) → c < length l.children → length (docks_at lists c) ≤ 2 ^ 16

-- the lanes of the first children
pub record AreLanesOf (l : PlainLevel) (rows : List (List Spot)) (lists : List (List Dock)) (north south : List ℕ) (count : ℕ)
    (ws : List PlainLanes) : Type 0 where
  pub as_many : length ws ≡ count
  pub lanes : (c : ℕ) → c < count
      → AreDockLanes (child_at l c).size.height (docks_at lists c) (row_at rows c) (slice_index north c) (slice_index south c)
      (lanes_at ws c)

-- a child, by its unit, the docks of its spots and their lanes
pub record IsEntry (c : Child) (unit : ℕ) (docks : List Dock) (w : PlainLanes) (v : ChildAt) : Type 0 where
  pub unit_is : v.unit ≡ unit
  pub outline_is : v.outline ≡ outline_by c docks (range_with_len 0 (length c.ports))
  pub near : IsNearRect v.outline
  pub as_many : length v.ports ≡ length c.ports
  pub ports : (k : ℕ) → k < length c.ports
      → slice_index_or v.ports k (record { x = pos 0; y = pos 0 }) ≡ place_of_port c (dock_in docks k).side k (dock_in docks k).offset
  pub north : v.north ≡ w.north
  pub south : v.south ≡ w.south

pub record AreEntries (l : PlainLevel) (units : List ℕ) (lists : List (List Dock)) (ws : List PlainLanes) (count : ℕ)
    (entries : List ChildAt) : Type 0 where
  pub as_many : length entries ≡ count
  pub entry : (c : ℕ) → c < count → IsEntry (child_at l c) (slice_index units c) (docks_at lists c) (lanes_at ws c) (child_in entries c)

-- children, lanes and numbers that ends can be read from
pub record AreReady (l : PlainLevel) (numbers : List ℕ) (lists : List (List Dock)) (ends : List Dock) (ws : List PlainLanes)
    (entries : List ChildAt) : Type 0 where
  pub level : IsLevel l
  pub lane_count : length ws ≡ length l.children
  pub entry_count : length entries ≡ length l.children
  pub readable : (c : ℕ) → c < length l.children → AreReadable (lanes_at ws c) (length (docks_at lists c))
  pub near : (c : ℕ) → c < length l.children → IsNearRect (child_in entries c).outline
  pub few : (c : ℕ) → c < length l.children → (child_in entries c).north ≤ 2 ^ 17
  pub number_count : length numbers ≡ 2 * length l.edges
  pub source_number : (e : ℕ) → e < length l.edges → slice_index numbers (2 * e) < length (docks_at lists (edge_at l e).source.child)
  pub target_number : (e : ℕ) → e < length l.edges → slice_index numbers (2 * e + 1) < length (docks_at lists (edge_at l e).target.child)
  pub end_count : length ends ≡ 2 * length l.edges
  pub offsets : (i : ℕ) → i < length ends → IsOffset (dock_in ends i).offset

-- children of edges, with their outlines and lanes
pub record HaveBodies (l : PlainLevel) (entries : List ChildAt) : Type 0 where
  pub level : IsLevel l
  pub entry_count : length entries ≡ length l.children
  pub near : (c : ℕ) → c < length l.children → IsNearRect (child_in entries c).outline
  pub few : (c : ℕ) → c < length l.children → (child_in entries c).north ≤ 2 ^ 17

-- by edge, places of lanes
pub record HavePlaces (count : ℕ) (places : List ℕ) : Type 0 where
  pub as_many : length places ≡ count
  pub few : (e : ℕ) → slice_index places e ≤ 2 ^ 16

-- an end at a spoke, with its dock and the number of its spot
pub record IsEndEntry (l : PlainLevel) (ws : List PlainLanes) (entries : List ChildAt) (s : EdgeEnd) (dock : Dock) (number : ℕ)
    (v : EndAt) : Type 0 where
  pub dock_is : v.dock ≡ dock
  pub anchor_is : v.anchor ≡ anchor_at (child_at l s.child) dock.side s.port dock.offset
  pub lane_is : v.lane
      ≡ height_or l.spacing (child_in entries s.child).north (child_in entries s.child).outline.height
      (lane_side_in (lanes_at ws s.child) number) (lane_place_in (lanes_at ws s.child) number)
  pub near : IsEndIn v

-- the ends of the first edges
pub record AreEndEntries (l : PlainLevel) (numbers : List ℕ) (ends : List Dock) (ws : List PlainLanes) (entries : List ChildAt)
    (count : ℕ) (table : List EndAt) : Type 0 where
  pub as_many : length table ≡ 2 * count
  pub sources : (e : ℕ) → e < count
      → IsEndEntry l ws entries (edge_at l e).source (dock_in ends (2 * e)) (slice_index numbers (2 * e)) (end_in table (2 * e))
  pub targets : (e : ℕ) → e < count
      → IsEndEntry l ws entries (edge_at l e).target (dock_in ends (2 * e + 1)) (slice_index numbers (2 * e + 1)) (end_in table (2 * e + 1))

-- the heights of an edge's lanes by their places
pub record IsLoopEntry (l : PlainLevel) (entries : List ChildAt) (e north south : ℕ) (v : LoopAt) : Type 0 where
  pub north_is : v.north
      ≡ height_by l.spacing (child_in entries (edge_at l e).source.child).north
      (child_in entries (edge_at l e).source.child).outline.height North north
  pub south_is : v.south
      ≡ height_by l.spacing (child_in entries (edge_at l e).source.child).north
      (child_in entries (edge_at l e).source.child).outline.height South south
  pub near : IsLoopIn v

pub record AreLoopEntries (l : PlainLevel) (entries : List ChildAt) (north south : List ℕ) (count : ℕ) (table : List LoopAt) : Type 0 where
  pub as_many : length table ≡ count
  pub entry : (e : ℕ) → e < count → IsLoopEntry l entries e (slice_index north e) (slice_index south e) (loop_in table e)

-- the spots and docks of a level under a plan of its layered drawing and the orders of its sides
pub record IsPlannedTable (l : PlainLevel) (layered : Plain) (v : Spots) (lists : List (List Dock)) (p : PlainPlan)
    (vs : List FourOrders) : Type 0 where
  pub layered_is : p.layered ≡ layered
  pub spots_are : AreSpotsOf l p v
  pub orders_are : AreOrdersTo l (row_lists v.rows) (length l.children) vs
  pub docks_are : AreDocks l (row_lists v.rows) vs (length l.children) lists
