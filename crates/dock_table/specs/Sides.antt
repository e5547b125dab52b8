-- The orders of the sides of children as lists, and the docks of spots under them.
use Rattle.std.specs.Prelude.{◌≡◌, ℕ, ◌<◌, ◌≤◌, ◌^◌, Bool, true, false, List, [], map, ℤ, ◌+ℤ◌, Option, None, Some, length, slice_index}
use Rattle.std.specs.Prelude.{slice_index_or, IsFalse}
use Rattle.drawing_types.specs.declared.shape.Side.{Side}
use Rattle.drawing_types.specs.declared.shape.Side.TheVariants.{North, East, South, West}
use Rattle.drawing_types.specs.declared.shape.Dock.{Dock}
use Rattle.elk_doc.specs.PortsKept.{size_along}
use Rattle.elk_doc.specs.Sound.{along}
use Rattle.port_order.specs.declared.children.Child.{Child}
use Rattle.port_order.specs.declared.spots.Spot.{Spot}
use Rattle.port_order.specs.Child.{port_at, spot_at, is_pinned_spot}
use Rattle.port_order.specs.Sides.{side_of, is_mirrored}
use Rattle.std.specs.List.{All}
use Rattle.port_order.specs.Conditions.{AreSpots}
use Rattle.port_order.specs.Order.{IsOrderOfSide}
use Rattle.port_order.specs.Places as places
use Rattle.level_model.specs.Level.{PlainLevel, Orders, child_at}
use Rattle.dock_table.specs.declared.orders.SideOrders.{SideOrders}
use Rattle.dock_table.specs.declared.docks.Docks.{Docks}
use Rattle.dock_table.specs.Narrow.{IsOffset}
use Rattle.dock_table.specs.Rows.{AreCounted, row_at}

-- the orders of a child's four sides
pub record FourOrders : Type 0 where
  pub north : List ℕ
  pub east : List ℕ
  pub south : List ℕ
  pub west : List ℕ

abbrev pub four_of : SideOrders → FourOrders
four_of v = record { north = v.north.items; east = v.east.items; south = v.south.items; west = v.west.items }

abbrev pub order_on : FourOrders → Side → List ℕ
order_on v North = v.north
order_on v East = v.east
order_on v South = v.south
order_on v West = v.west

-- the orders of all children
abbrev pub orders_in : List FourOrders → Orders
orders_in vs c side = order_on (slice_index_or vs c (record { north = []; east = []; south = []; west = [] })) side

-- they are the orders of the sides of these spots
abbrev pub AreFour : Child → List Spot → FourOrders → Type 0
AreFour c spots v = (side : Side) → IsOrderOfSide c side spots (order_on v side)

-- by number, the places of spread spots in the orders of their sides
pub record HavePlaces (c : Child) (spots : List Spot) (v : FourOrders) (place : List ℕ) : Type 0 where
  pub as_long : length place ≡ length spots
  pub place_is : (k : ℕ) → k < length spots → IsFalse (is_pinned_spot c (spot_at spots k))
      → slice_index place k ≡ places.place_in (order_on v (side_of c (spot_at spots k))) k

-- the offset of a spot by its place in the order of its side, which has so many spots
abbrev pub offset_by : Child → Side → Bool → Option ℕ → ℕ → ℕ → ℤ
offset_by c side true (Some k) len place = along side (port_at c k).place +ℤ (port_at c k).half
offset_by c side true None len place = places.rotated_spread (is_mirrored c.direction side) (size_along side c.size) len place
offset_by c side false port len place = places.rotated_spread (is_mirrored c.direction side) (size_along side c.size) len place

-- the dock of a spot of a child with this number
abbrev pub dock_by : Child → ℕ → FourOrders → Spot → Dock
dock_by c number v s = record { node = number; side = side_of c s; offset = places.dock_of c s (order_on v (side_of c s)) }

abbrev pub dock_lists : Docks → List (List Dock)
dock_lists v = map (λ ds. ds.items) v.lists.items

abbrev pub docks_at : List (List Dock) → ℕ → List Dock
docks_at lists c = slice_index_or lists c []

abbrev pub four_at : List FourOrders → ℕ → FourOrders
four_at vs c = slice_index_or vs c (record { north = []; east = []; south = []; west = [] })

-- the rows are spots of the children, numbered by their places, and the orders are those of their sides
pub record HaveOrders (l : PlainLevel) (rows : List (List Spot)) (vs : List FourOrders) : Type 0 where
  pub row_count : length rows ≡ length l.children
  pub order_count : length vs ≡ length l.children
  pub few : (c : ℕ) → c < length l.children → length (row_at rows c) ≤ 2 ^ 16
  pub numbered : (c : ℕ) → c < length l.children → AreCounted (row_at rows c)
  pub sound : (c : ℕ) → c < length l.children → AreSpots (child_at l c) (row_at rows c)
  pub orders : (c : ℕ) → c < length l.children → AreFour (child_at l c) (row_at rows c) (four_at vs c)

-- so are those of the first children
pub record AreOrdersTo (l : PlainLevel) (rows : List (List Spot)) (count : ℕ) (vs : List FourOrders) : Type 0 where
  pub as_many : length vs ≡ count
  pub four : (c : ℕ) → c < count → AreFour (child_at l c) (row_at rows c) (four_at vs c)

-- the docks of the first children's spots
pub record AreDocks (l : PlainLevel) (rows : List (List Spot)) (vs : List FourOrders) (count : ℕ) (lists : List (List Dock)) : Type 0 where
  pub as_many : length lists ≡ count
  pub docks : (c : ℕ) → c < count → docks_at lists c ≡ map (dock_by (child_at l c) c (four_at vs c)) (row_at rows c)
  pub offsets : (c : ℕ) → c < count → All (λ (d : Dock). IsOffset d.offset) (docks_at lists c)
