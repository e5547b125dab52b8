-- The order of a side's spread spots, from the top or the left in the working frame.
use Rattle.std.specs.Prelude.{◌≡◌, ◌⊎◌, ℕ, ◌*◌, ◌<◌, Bool, true, false, List, ℤ, ◌+ℤ◌, Option, None, Some, length, slice_index, IsFalse}
use Rattle.drawing_types.specs.declared.shape.Side.{Side}
use Rattle.drawing_types.specs.declared.shape.Side.TheVariants.{North, East, South, West}
use Rattle.elk_doc.specs.declared.document.PortRule.{PortRule}
use Rattle.elk_doc.specs.declared.document.PortRule.TheVariants.{Free, FixedSide, FixedOrder, FixedPos}
use Rattle.elk_doc.specs.Sound.{along}
use Rattle.elk_doc.specs.PortsKept.{counted, GoesFirst}
use Rattle.port_order.specs.declared.children.Child.{Child}
use Rattle.port_order.specs.declared.spots.Mean.{Mean}
use Rattle.port_order.specs.declared.spots.Spot.{Spot}
use Rattle.port_order.specs.Child.{port_at, spot_at, is_pinned_spot}
use Rattle.port_order.specs.Sides.{side_of, is_forward}
use Rattle.port_order.specs.Places.{HoldsOnce}

-- a spread spot of a side
pub record IsSpreadOn (c : Child) (side : Side) (s : Spot) : Type 0 where
  pub spread : IsFalse (is_pinned_spot c s)
  pub on_side : side_of c s ≡ side

-- By the mean of positions: the smaller mean first, spots without links last, ties by number. Means are compared
-- crosswise, so nothing is rounded.
abbrev pub MeanFirst : Option Mean → Option Mean → ℕ → ℕ → Type 0
MeanFirst (Some m) (Some n) i j = (m.sum * n.count < n.sum * m.count) ⊎ ((m.sum * n.count ≡ n.sum * m.count) × (i < j))
MeanFirst (Some m) None i j = Unit {0}
MeanFirst None (Some n) i j = ⊥
MeanFirst None None i j = i < j

-- the given place of a port's anchor along a side, counted clockwise in the document
abbrev pub given_at : Child → Side → ℕ → ℤ
given_at c side k = counted (is_forward c.direction side) (along side (port_at c k).place +ℤ (port_at c k).half)

-- the spot number i at port j stands clockwise before the spot number l at port k
abbrev pub ClockwiseFirst : Child → Side → ℕ → ℕ → ℕ → ℕ → Type 0
ClockwiseFirst c side j i k l = GoesFirst (port_at c j).index (port_at c k).index (given_at c side j) (given_at c side k) i l

-- from the top or the left clockwise runs forward or backward
abbrev pub PortFirst : Bool → Child → Side → ℕ → ℕ → ℕ → ℕ → Type 0
PortFirst true c side j i k l = ClockwiseFirst c side j i k l
PortFirst false c side j i k l = ClockwiseFirst c side k l j i

-- under a fixed order: the ports clockwise, then the implicit ends by their means
abbrev pub FixedFirst : Child → Side → Spot → Spot → Option ℕ → Option ℕ → Type 0
FixedFirst c side s t (Some j) (Some k) = PortFirst (is_forward c.direction side) c side j s.number k t.number
FixedFirst c side s t (Some j) None = Unit {0}
FixedFirst c side s t None (Some k) = ⊥
FixedFirst c side s t None None = MeanFirst s.mean t.mean s.number t.number

-- on the north and south sides: what only enters, then what does both or neither, then what only leaves
abbrev pub flow_class : Bool → Bool → ℕ
flow_class true false = 2
flow_class false true = 0
flow_class _ _ = 1

abbrev pub FlowFirst : Spot → Spot → Type 0
FlowFirst s t =
    (flow_class s.leaves s.enters < flow_class t.leaves t.enters)
    ⊎ ((flow_class s.leaves s.enters ≡ flow_class t.leaves t.enters) × (s.number < t.number))

abbrev pub FreeFirst : Side → Spot → Spot → Type 0
FreeFirst North s t = FlowFirst s t
FreeFirst East s t = MeanFirst s.mean t.mean s.number t.number
FreeFirst South s t = FlowFirst s t
FreeFirst West s t = MeanFirst s.mean t.mean s.number t.number

-- spot s stands before spot t
abbrev pub ComesFirst : PortRule → Child → Side → Spot → Spot → Type 0
ComesFirst FixedOrder c side s t = FixedFirst c side s t s.port t.port
ComesFirst Free c side s t = FreeFirst side s t
ComesFirst FixedSide c side s t = FreeFirst side s t
ComesFirst FixedPos c side s t = FreeFirst side s t

-- The order holds the number of each spread spot of the side once, and nothing else, each before those that it precedes.
pub record IsOrderOfSide (c : Child) (side : Side) (spots : List Spot) (order : List ℕ) : Type 0 where
  pub spread : (i : ℕ) → i < length order
      → (k : ℕ) × (k < length spots) × ((spot_at spots k).number ≡ slice_index order i) × IsSpreadOn c side (spot_at spots k)
  pub once : (k : ℕ) → k < length spots → IsSpreadOn c side (spot_at spots k) → HoldsOnce order (spot_at spots k).number
  pub sorted : (i j k l : ℕ) → i < j → j < length order → k < length spots → l < length spots
      → (spot_at spots k).number ≡ slice_index order i → (spot_at spots l).number ≡ slice_index order j
      → ComesFirst c.rule c side (spot_at spots k) (spot_at spots l)
