-- How many ports of its side come before a port, and how many are ranked on a side.
use Rattle.std.specs.Prelude.{◌≡◌, ◌⊎◌, ℕ, ◌<◌, ◌≤◌, cond, Bool, true, false, ◌&&◌, ◌||◌, List, [], pos, int_lt, map, length, slice_index}
use Rattle.std.specs.List.{filter}
use Rattle.std.specs.Ordering.{int_eq}
use Rattle.drawing_types.specs.declared.shape.Side.{Side}
use Rattle.drawing_types.specs.declared.shape.Side.TheVariants.{East, West}
use Rattle.elk_doc.specs.declared.document.PortRule.{PortRule}
use Rattle.elk_doc.specs.declared.document.PortRule.TheVariants.{Free, FixedSide, FixedOrder, FixedPos}
use Rattle.drawing_types.specs.Shapes.{is_side}
use Rattle.port_order.specs.declared.children.Child.{Child}
use Rattle.port_order.specs.declared.spots.Spot.{Spot}
use Rattle.port_order.specs.Child.{is_pinned_spot, spot_at}
use Rattle.port_order.specs.Order.{IsOrderOfSide}
use Rattle.port_order.specs.Places.{dock_of, place_in}
use Rattle.port_order.specs.Sides.{side_of}
use Rattle.layer_units.specs.declared.ports.PortAt.{PortAt}
use Rattle.layer_units.specs.declared.ports.PortRanks.{PortRanks}
use Rattle.layer_units.specs.Sides.{HavePorts, SamePorts}

-- a port is ranked under a fixed order, and under fixed positions where it is pinned
abbrev pub ranks_port : PortRule → Bool → Bool
ranks_port FixedOrder pinned = true
ranks_port FixedPos pinned = pinned
ranks_port Free pinned = false
ranks_port FixedSide pinned = false

-- a port's spot as ports are counted
abbrev pub port_at : Child → Spot → PortAt
port_at c s =
    record {
      number = s.number;
      ranked = ranks_port c.rule (is_pinned_spot c s);
      side = side_of c s;
      offset = cond (is_pinned_spot c s) (dock_of c s []) (pos 0);
    }

-- a ranked port on a side, and one that comes before another by offset
abbrev pub counts : Side → PortAt → Bool
counts side q = q.ranked && is_side q.side side

abbrev pub is_first : PortAt → PortAt → Bool
is_first own q = int_lt q.offset own.offset || (int_eq q.offset own.offset && int_lt (pos q.number) (pos own.number))

abbrev pub comes_before : PortAt → PortAt → Bool
comes_before own q = counts own.side q && is_first own q

-- a child's ports as plain data: by port, how many come before it, and how many are ranked in the west and in the east
pub record PlainRanks : Type 0 where
  pub before : List ℕ
  pub west : ℕ
  pub east : ℕ

abbrev pub plain_ranks : PortRanks → PlainRanks
plain_ranks v = record { before = v.before.items; west = v.west; east = v.east }

abbrev pub IsBeside : Side → Type 0
IsBeside side = (side ≡ West) ⊎ (side ≡ East)

-- By port, the places before it in any order of its side, whatever spots of implicit ends are ordered too, where its side is
-- the west or the east.
pub record AreOrdered (c : Child) (spots : List Spot) (before : List ℕ) : Type 0 where
  pub as_many : length before ≡ length spots
  pub place_is : c.rule ≡ FixedOrder → (k : ℕ) → k < length spots → IsBeside (side_of c (spot_at spots k))
      → (also : List Spot) (order : List ℕ) → HavePorts c also → SamePorts c spots also
      → IsOrderOfSide c (side_of c (spot_at spots k)) also order → slice_index before k ≡ place_in order k
  pub few : (k : ℕ) → slice_index before k ≤ length spots

-- under fixed positions ports are counted by offset
pub record AreBefore (c : Child) (spots : List Spot) (before : List ℕ) : Type 0 where
  pub as_many : length before ≡ length spots
  pub ordered : c.rule ≡ FixedOrder → AreOrdered c spots before
  pub placed : c.rule ≡ FixedPos → (k : ℕ) → k < length spots
      → slice_index before k ≡ length (filter (comes_before (port_at c (spot_at spots k))) (map (port_at c) spots))
  pub few : (k : ℕ) → slice_index before k ≤ length spots

pub record AreRanksOf (c : Child) (spots : List Spot) (v : PlainRanks) : Type 0 where
  pub west_is : v.west ≡ length (filter (counts West) (map (port_at c) spots))
  pub east_is : v.east ≡ length (filter (counts East) (map (port_at c) spots))
  pub before : AreBefore c spots v.before

-- the spots of a child's ports alone
pub record ArePortSpots (c : Child) (spots : List Spot) : Type 0 where
  pub as_many : length spots ≡ length c.ports
  pub few : length c.ports ≤ 4096
  pub ports : HavePorts c spots
