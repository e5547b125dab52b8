-- What follows from orders and offsets: the order of a side is determined, and ports and ends obey their constraints.
use Rattle.std.specs.Prelude.{◌≡◌, ◌≢◌, ◌⊎◌, ℕ, ◌<◌, ◌≤◌, ◌&&◌, not, List, ℤ, pos, ◌≤ℤ◌, ◌<ℤ◌, Some, length, IsTrue, IsFalse}
use Rattle.drawing_types.specs.declared.shape.Point.{Point}
use Rattle.drawing_types.specs.declared.shape.Size.{Size}
use Rattle.drawing_types.specs.declared.shape.Side.{Side}
use Rattle.drawing_types.specs.declared.shape.Side.TheVariants.{North, East, South, West}
use Rattle.elk_doc.specs.declared.document.PortRule.TheVariants.{FixedOrder}
use Rattle.drawing_types.specs.Shapes.{origin}
use Rattle.drawing_types.specs.Shapes.{rect_at}
use Rattle.elk_doc.specs.Sound.{along}
use Rattle.drawing_types.specs.Ranges.{IsWithin}
use Rattle.elk_doc.specs.PortsKept.{size_along, across, flush, counted}
use Rattle.port_order.specs.declared.children.Child.{Child}
use Rattle.port_order.specs.declared.spots.Spot.{Spot}
use Rattle.port_order.specs.Child.{port_at, spot_at, is_pinned, is_pinned_spot}
use Rattle.port_order.specs.Sides.{side_of, is_forward}
use Rattle.port_order.specs.Conditions.{IsChild, IsSpot, AreSpots}
use Rattle.port_order.specs.Places.{HoldsOnce, place_in, spread_offset, dock_of, anchor_at, place_of_port}
use Rattle.port_order.specs.Order.{ComesFirst, ClockwiseFirst, IsOrderOfSide, IsSpreadOn}

-- `ComesFirst` is a strict total order on spots whose numbers differ
pub record IsStrictOrder : Type 0 where
  pub one_way : (c : Child) (side : Side) (s t : Spot) → ComesFirst c.rule c side s t → ComesFirst c.rule c side t s → ⊥
  pub either : (c : Child) (side : Side) (s t : Spot) → s.number ≢ t.number → ComesFirst c.rule c side s t ⊎ ComesFirst c.rule c side t s
  pub chain : (c : Child) (side : Side) (r s t : Spot) → IsSpot c r → IsSpot c s → IsSpot c t → ComesFirst c.rule c side r s
      → ComesFirst c.rule c side s t → ComesFirst c.rule c side r t

-- two orders of one side are equal
abbrev pub HasOneOrder : Type 0
HasOneOrder =
    (c : Child) (side : Side) (spots : List Spot) (p q : List ℕ) → AreSpots c spots → IsOrderOfSide c side spots p
    → IsOrderOfSide c side spots q → p ≡ q

-- Spread offsets lie on their side and do not fall along its order; where the side is longer than the number of its
-- spots, they differ.
pub record OffsetsRise : Type 0 where
  pub inside : (c : Child) (side : Side) (order : List ℕ) (n : ℕ) → IsChild c → HoldsOnce order n
      → IsWithin (pos 0) (size_along side c.size) (spread_offset c side order n)
  pub rising : (c : Child) (side : Side) (order : List ℕ) (m n : ℕ) → HoldsOnce order m → HoldsOnce order n
      → place_in order m ≤ place_in order n
      → spread_offset c side order m ≤ℤ spread_offset c side order n
  pub apart : (c : Child) (side : Side) (order : List ℕ) (m n : ℕ) → HoldsOnce order m → HoldsOnce order n → m ≢ n
      → pos (length order) <ℤ size_along side c.size
      → spread_offset c side order m ≢ spread_offset c side order n

-- where the port of a spot stands
abbrev pub stands_at : Child → Spot → ℕ → List ℕ → Point
stands_at c s k order = place_of_port c (side_of c s) k (dock_of c s order)

-- A pinned port keeps its given place along its side, and at a leaf across it too; every other port stands flush outside;
-- the anchor of a port that is not pinned lies on its side.
pub record KeepsPort (c : Child) (s : Spot) (k : ℕ) (order : List ℕ) : Type 0 where
  pub along_kept : IsTrue (is_pinned c k) → along (side_of c s) (stands_at c s k order) ≡ along (side_of c s) (port_at c k).place
  pub across_kept : IsTrue (is_pinned c k && not c.compound)
      → across (side_of c s) (stands_at c s k order) ≡ across (side_of c s) (port_at c k).place
  pub flush_outside : IsFalse (is_pinned c k && not c.compound)
      → across (side_of c s) (stands_at c s k order) ≡ flush (side_of c s) (rect_at origin c.size) (port_at c k).size
  pub on_side : IsFalse (is_pinned c k) → IsWithin (pos 0) (size_along (side_of c s) c.size) (dock_of c s order)

-- a point does not lie on the inner side of a box's border
abbrev pub IsOutward : Side → Size → Point → Type 0
IsOutward North box p = p.y ≤ℤ pos 0
IsOutward East box p = box.width ≤ℤ p.x
IsOutward South box p = box.height ≤ℤ p.y
IsOutward West box p = p.x ≤ℤ pos 0

-- ports and ends are kept, by the offsets that an order gives
pub record PortsStand : Type 0 where
  pub port : (c : Child) (s : Spot) (k : ℕ) (order : List ℕ) → IsChild c → s.port ≡ Some k
      → (IsFalse (is_pinned_spot c s) → HoldsOnce order s.number) → KeepsPort c s k order
  pub outward : (c : Child) (s : Spot) (offset : ℤ) → IsChild c → IsSpot c s
      → IsOutward (side_of c s) c.size (anchor_at c (side_of c s) s.port offset)

-- Under a fixed order a port that comes before another clockwise in the document does not stand further clockwise.
abbrev pub KeepsOrder : Type 0
KeepsOrder =
    (c : Child) (side : Side) (spots : List Spot) (order : List ℕ) (i l j k : ℕ) → AreSpots c spots
    → IsOrderOfSide c side spots order → c.rule ≡ FixedOrder
    → i < length spots → l < length spots → IsSpreadOn c side (spot_at spots i) → IsSpreadOn c side (spot_at spots l)
    → (spot_at spots i).port ≡ Some j → (spot_at spots l).port ≡ Some k
    → ClockwiseFirst c side j (spot_at spots i).number k (spot_at spots l).number
    → counted (is_forward c.direction side) (dock_of c (spot_at spots i) order)
    ≤ℤ counted (is_forward c.direction side) (dock_of c (spot_at spots l) order)
