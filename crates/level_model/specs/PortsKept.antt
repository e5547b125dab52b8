-- The ports and ends of a drawing obey the constraints of their children.
use Rattle.std.specs.Prelude.{◌≡◌, ℕ, ◌<◌, not, Bool, ℤ, ◌+ℤ◌, ◌≤ℤ◌, None, length, IsFalse}
use Rattle.std.specs.List.{filter}
use Rattle.drawing_types.specs.declared.shape.Point.{Point}
use Rattle.drawing_types.specs.declared.shape.Side.{Side}
use Rattle.elk_doc.specs.declared.document.PortRule.TheVariants.{FixedOrder}
use Rattle.drawing_types.specs.Shapes.{origin}
use Rattle.drawing_types.specs.Shapes.{rect_at}
use Rattle.elk_doc.specs.Sound.{along}
use Rattle.elk_doc.specs.PortsKept.{size_along, flush, IsPortKept, IsEndKept, StandApart, Spot as Place, a_port, an_end, counted}
use Rattle.elk_doc.specs.Places.{offset_on}
use Rattle.port_order.specs.declared.children.Child.{Child}
use Rattle.port_order.specs.Child.{port_at, is_pinned}
use Rattle.port_order.specs.Sides.{side_of, is_forward}
use Rattle.port_order.specs.Order.{ClockwiseFirst}
use Rattle.port_order.specs.Ranks.{is_spread_on}
use Rattle.level_model.specs.Level.{PlainLevel, PlainPlan, Orders, End, end_at, child_at, spoke, port_spot, spots, dock_of, port_place}
use Rattle.level_model.specs.FromPlan.{LevelDrawing, point_or, box_place, anchor, IsDrawnFrom}
use Rattle.level_model.specs.Units.{AreOrders}
use Rattle.level_model.specs.Conditions.{IsLevel}
use Rattle.level_model.specs.Apart.{drawn_box, drawn_port}

-- the side of a port
abbrev pub port_side : PlainLevel → PlainPlan → ℕ → ℕ → Side
port_side l p c k = side_of (child_at l c) (port_spot l p c k)

-- how far the anchor of a port at this place stands along its side
abbrev pub port_offset : Child → Side → ℕ → Point → ℤ
port_offset c side k place = along side place +ℤ (port_at c k).half

-- a port of a child at its place on this side
abbrev pub KeepsPort : Child → Side → ℕ → Point → Type 0
KeepsPort c side k place =
    IsPortKept (is_pinned c k) (not c.compound) side (size_along side c.size) (port_at c k).place place
    (flush side (rect_at origin c.size) (port_at c k).size) (port_offset c side k place)

-- an end without a port, by its anchor
abbrev pub KeepsEnd : PlainLevel → PlainPlan → Orders → LevelDrawing → End → Type 0
KeepsEnd l p o d n =
    IsEndKept (dock_of l p o n).side (size_along (dock_of l p o n).side (child_at l (spoke l n).child).size)
    (drawn_box l d (spoke l n).child) (anchor l p o d n)

-- Under a fixed order a port that comes before another of its side, as clockwise runs in the document, does not stand further
-- clockwise.
abbrev pub KeepsOrder : PlainLevel → PlainPlan → LevelDrawing → ℕ → Type 0
KeepsOrder l p d c =
    (j k : ℕ) → (child_at l c).rule ≡ FixedOrder → j < length (child_at l c).ports → k < length (child_at l c).ports
    → port_side l p c j ≡ port_side l p c k
    → ClockwiseFirst (child_at l c) (port_side l p c k) j j k k
    → counted (is_forward (child_at l c).direction (port_side l p c k))
    (port_offset (child_at l c) (port_side l p c j) j (drawn_port d c j))
    ≤ℤ counted (is_forward (child_at l c).direction (port_side l p c k))
    (port_offset (child_at l c) (port_side l p c k) k (drawn_port d c k))

-- a port of the child that is not pinned, or an end at the child without a port, on this side
abbrev pub IsSpreadAt : PlainLevel → PlainPlan → Orders → ℕ → Side → Place → Type 0
IsSpreadAt l p o c side (a_port k) = (k < length (child_at l c).ports) × IsFalse (is_pinned (child_at l c) k) × (port_side l p c k ≡ side)
IsSpreadAt l p o c side (an_end e t) =
    (e < length l.edges) × ((spoke l (end_at e t)).child ≡ c) × ((spoke l (end_at e t)).port ≡ None)
    × ((dock_of l p o (end_at e t)).side ≡ side)

-- how far its anchor stands along that side
abbrev pub drawn_offset : PlainLevel → PlainPlan → Orders → LevelDrawing → ℕ → Side → Place → ℤ
drawn_offset l p o d c side (a_port k) = port_offset (child_at l c) side k (drawn_port d c k)
drawn_offset l p o d c side (an_end e t) = offset_on side (drawn_box l d c) (anchor l p o d (end_at e t))

-- how many spread spots a side has
abbrev pub spread_count : PlainLevel → PlainPlan → ℕ → Side → ℕ
spread_count l p c side = length (filter (is_spread_on (child_at l c) side) (spots l p c))

-- where a side is longer than the number of its spread spots, these have different offsets
abbrev pub SpreadsApart : PlainLevel → PlainPlan → Orders → LevelDrawing → ℕ → Type 0
SpreadsApart l p o d c =
    (side : Side)
    → StandApart (spread_count l p c side) (size_along side (child_at l c).size) (IsSpreadAt l p o c side) (drawn_offset l p o d c side)

-- the ports of a child, and the ends at it, are kept
pub record KeepsPorts (l : PlainLevel) (p : PlainPlan) (o : Orders) (d : LevelDrawing) (c : ℕ) : Type 0 where
  pub ports : (k : ℕ) → k < length (child_at l c).ports → KeepsPort (child_at l c) (port_side l p c k) k (drawn_port d c k)
  pub ends : (e : ℕ) (t : Bool) → e < length l.edges → (spoke l (end_at e t)).child ≡ c → (spoke l (end_at e t)).port ≡ None
      → KeepsEnd l p o d (end_at e t)
  pub order : KeepsOrder l p d c
  pub spread : SpreadsApart l p o d c

-- Each port stands where its child's order places it, and each child of an edge where the plan does.
pub record ArePortsPlaced (l : PlainLevel) (p : PlainPlan) (o : Orders) (d : LevelDrawing) : Type 0 where
  pub ports : (c k : ℕ) → c < length l.children → k < length (child_at l c).ports → drawn_port d c k ≡ port_place l p o c k
  pub boxes : (e : ℕ) (t : Bool) → e < length l.edges
      → point_or d.boxes (spoke l (end_at e t)).child ≡ box_place l p o d (spoke l (end_at e t)).child

-- so it is in each level whose ports are placed by the orders of their sides, and so in each drawing from a plan
pub record PortsAreKept : Type 0 where
  pub placed : (l : PlainLevel) (p : PlainPlan) (o : Orders) (d : LevelDrawing) → IsLevel l → AreOrders l p o
      → ArePortsPlaced l p o d → (c : ℕ) → c < length l.children → KeepsPorts l p o d c
  pub drawn : (l : PlainLevel) (p : PlainPlan) (o : Orders) (d : LevelDrawing) → IsLevel l → AreOrders l p o
      → IsDrawnFrom l p o d → (c : ℕ) → c < length l.children → KeepsPorts l p o d c
