-- Where everything of a level stands: columns, gaps, units, lines and docks, as the drawing's laws see them.
use Rattle.std.specs.Prelude.{◌≡◌, ◌≢◌, ◌⊎◌, ℕ, ◌+◌, ◌<◌, ◌≤◌, Bool, true, false, List, ℤ, pos, ◌+ℤ◌, ◌≤ℤ◌, ◌<ℤ◌, length, IsTrue}
use Rattle.drawing_types.specs.declared.shape.Point.{Point}
use Rattle.drawing_types.specs.declared.shape.Rect.{Rect}
use Rattle.drawing_types.specs.declared.shape.Side.{Side}
use Rattle.drawing_types.specs.declared.shape.Side.TheVariants.{North, East, South, West}
use Rattle.drawing_types.specs.declared.shape.Dock.{Dock}
use Rattle.drawing_types.specs.Shapes.{right_of, bottom_of}
use Rattle.net_routes.specs.declared.Pin.{Pin}
use Rattle.net_routes.specs.Pieces.{Abscissa, left_border, slot, right_border, rank, IsAbscissa, net_at}
use Rattle.net_routes.specs.GapFree.{HasPin, GapFree}
use Rattle.route_lines.specs.Points.{PlainGap, gap_in, stand}

-- A level line on which routes run within the column of a unit: at an anchor on the east or west side, or a lane: of a
-- dock, of a self-loop on its north or south side, or of a long edge.
pub data Line : Type 0 where
  anchor_line : Dock → Line
  dock_lane : Dock → Line
  loop_lane : ℕ → Side → Line
  long_lane : ℕ → Line

-- the parts of a level, by number
pub record Stage : Type 0 where
  pub layers : ℕ
  pub units : ℕ
  pub children : ℕ
  pub edges : ℕ
  pub gaps : List PlainGap
  pub col_left : ℕ → ℤ
  pub col_right : ℕ → ℤ
  pub layer : ℕ → ℕ
  pub top : ℕ → ℤ
  pub bottom : ℕ → ℤ
  pub unit_of : ℕ → ℕ
  pub box : ℕ → Rect
  pub outline : ℕ → Rect
  pub dock : ℕ → Bool → Dock
  pub anchor : ℕ → Bool → Point
  pub lane_edge : ℕ → ℕ
  pub net_edge : ℕ → ℕ → ℕ
  pub height : Line → ℤ
  pub in_use : ℕ → Line → Bool

-- one of the two docks of an edge is this one
abbrev pub HasDock : Stage → ℕ → Dock → Type 0
HasDock s e d = (at_source : Bool) × (s.dock e at_source ≡ d)

-- the unit of a line
abbrev pub unit_of_line : Stage → Line → ℕ
unit_of_line s (anchor_line d) = s.unit_of d.node
unit_of_line s (dock_lane d) = s.unit_of d.node
unit_of_line s (loop_lane e side) = s.unit_of (s.dock e true).node
unit_of_line s (long_lane u) = u

-- the edge runs on the line
abbrev pub Uses : Stage → ℕ → Line → Type 0
Uses s e (anchor_line d) = HasDock s e d
Uses s e (dock_lane d) = HasDock s e d
Uses s e (loop_lane f side) = f ≡ e
Uses s e (long_lane u) = s.lane_edge u ≡ e

-- a piece or a pin of the edge's route lies on the line
abbrev pub InUse : Stage → ℕ → Line → Type 0
InUse s e l = IsTrue (s.in_use e l)

-- The line reaches the border of its column on this side: a lane reaches both, an anchor that of its own side.
abbrev pub Reaches : Side → Line → Type 0
Reaches side (anchor_line d) = d.side ≡ side
Reaches side (dock_lane d) = Unit {0}
Reaches side (loop_lane f s) = Unit {0}
Reaches side (long_lane u) = Unit {0}

abbrev pub IsLane : Line → Type 0
IsLane (anchor_line d) = ⊥
IsLane (dock_lane d) = Unit {0}
IsLane (loop_lane f s) = Unit {0}
IsLane (long_lane u) = Unit {0}

-- The columns and gaps stand from left to right.
pub record InRow (s : Stage) : Type 0 where
  pub as_many : length s.gaps ≡ s.layers + 1
  pub columns : (r : ℕ) → r < s.layers → s.col_left r ≤ℤ s.col_right r
  pub apart : (r q : ℕ) → r < q → q < s.layers → s.col_right r <ℤ s.col_left q

-- The abscissae of a gap stand from left to right, between the columns that it parts; the slots are strictly apart, and
-- strictly apart from the columns.
pub record InGap (s : Stage) (g : ℕ) : Type 0 where
  pub rising : (a b : Abscissa) → IsAbscissa (gap_in s.gaps g).count a → IsAbscissa (gap_in s.gaps g).count b
      → rank (gap_in s.gaps g).count a ≤ℤ rank (gap_in s.gaps g).count b → stand (gap_in s.gaps g) a ≤ℤ stand (gap_in s.gaps g) b
  pub slots : (i j : ℕ) → i < j → j < (gap_in s.gaps g).count → stand (gap_in s.gaps g) (slot i) <ℤ stand (gap_in s.gaps g) (slot j)
  pub before : (r : ℕ) (a : Abscissa) → g ≤ r → r < s.layers → IsAbscissa (gap_in s.gaps g).count a
      → stand (gap_in s.gaps g) a ≤ℤ s.col_left r
  pub slot_before : (r i : ℕ) → g ≤ r → r < s.layers → i < (gap_in s.gaps g).count → stand (gap_in s.gaps g) (slot i) <ℤ s.col_left r
  pub after : (r : ℕ) (a : Abscissa) → r < g → r < s.layers → IsAbscissa (gap_in s.gaps g).count a
      → s.col_right r ≤ℤ stand (gap_in s.gaps g) a
  pub slot_after : (r i : ℕ) → r < g → r < s.layers → i < (gap_in s.gaps g).count → s.col_right r <ℤ stand (gap_in s.gaps g) (slot i)

-- Beside a gap between two columns, each border of the gap is strictly apart from the column on the other side.
pub record IsInner (s : Stage) (g : ℕ) : Type 0 where
  pub left_apart : (q r : ℕ) → q + 1 ≡ g → g ≤ r → r < s.layers → stand (gap_in s.gaps g) left_border <ℤ s.col_left r
  pub right_apart : (r : ℕ) → r < g → g < s.layers → s.col_right r <ℤ stand (gap_in s.gaps g) right_border

-- The units of one layer stand one above the other.
abbrev pub InColumn : Stage → Type 0
InColumn s =
    (u v : ℕ) → u < s.units → v < s.units → u ≢ v → s.layer u ≡ s.layer v
    → (s.bottom u <ℤ s.top v) ⊎ (s.bottom v <ℤ s.top u)

-- A child's outline and box lie in its unit and column; an end's anchor lies in the outline, outside the box on its dock's
-- side, at its dock's offset. Two ends at one dock may have anchors at different distances from the box.
abbrev pub IsOutward : Side → Rect → Point → Type 0
IsOutward North box a = a.y ≤ℤ box.y
IsOutward East box a = right_of box ≤ℤ a.x
IsOutward South box a = bottom_of box ≤ℤ a.y
IsOutward West box a = a.x ≤ℤ box.x

-- how far an anchor stands along its side
abbrev pub offset_along : Side → Rect → Point → ℤ → Type 0
offset_along North box a offset = a.x ≡ box.x +ℤ offset
offset_along East box a offset = a.y ≡ box.y +ℤ offset
offset_along South box a offset = a.x ≡ box.x +ℤ offset
offset_along West box a offset = a.y ≡ box.y +ℤ offset

pub record IsInOutline (r : Rect) (a : Point) : Type 0 where
  pub left : r.x ≤ℤ a.x
  pub right : a.x ≤ℤ right_of r
  pub top : r.y ≤ℤ a.y
  pub bottom : a.y ≤ℤ bottom_of r

pub record ChildStands (s : Stage) (c : ℕ) : Type 0 where
  pub there : c < s.children
  pub unit : s.unit_of c < s.units
  pub column : s.layer (s.unit_of c) < s.layers
  pub left : s.col_left (s.layer (s.unit_of c)) ≤ℤ (s.outline c).x
  pub right : right_of (s.outline c) ≤ℤ s.col_right (s.layer (s.unit_of c))
  pub top : s.top (s.unit_of c) ≤ℤ (s.outline c).y
  pub bottom : bottom_of (s.outline c) ≤ℤ s.bottom (s.unit_of c)
  pub box_left : (s.outline c).x ≤ℤ (s.box c).x
  pub box_right : right_of (s.box c) ≤ℤ right_of (s.outline c)
  pub box_top : (s.outline c).y ≤ℤ (s.box c).y
  pub box_bottom : bottom_of (s.box c) ≤ℤ bottom_of (s.outline c)
  pub wide : pos 0 ≤ℤ (s.box c).width
  pub high : pos 0 ≤ℤ (s.box c).height

pub record EndStands (s : Stage) (e : ℕ) (t : Bool) : Type 0 where
  pub child : ChildStands s (s.dock e t).node
  pub in_outline : IsInOutline (s.outline (s.dock e t).node) (s.anchor e t)
  pub outward : IsOutward (s.dock e t).side (s.box (s.dock e t).node) (s.anchor e t)
  pub offset : offset_along (s.dock e t).side (s.box (s.dock e t).node) (s.anchor e t) (s.dock e t).offset

-- a line keeps above or below the outline of a child
abbrev pub LaneClear : Stage → Line → ℕ → Type 0
LaneClear s l c = (s.height l <ℤ (s.outline c).y) ⊎ (bottom_of (s.outline c) <ℤ s.height l)

-- a lane at this child
abbrev pub IsLaneAt : Stage → Line → ℕ → Type 0
IsLaneAt s (anchor_line d) c = ⊥
IsLaneAt s (dock_lane d) c = d.node ≡ c
IsLaneAt s (loop_lane e side) c = (s.dock e true).node ≡ c
IsLaneAt s (long_lane u) c = ⊥

-- Lines lie in their units; lanes at a child keep clear of its outline; two lines of one unit that reach one border at one
-- height are one.
pub record LinesStand (s : Stage) : Type 0 where
  pub edge : (e : ℕ) (l : Line) → InUse s e l → e < s.edges
  pub used : (e : ℕ) (l : Line) → InUse s e l → Uses s e l
  pub unit : (e : ℕ) (l : Line) → InUse s e l → unit_of_line s l < s.units
  pub column : (e : ℕ) (l : Line) → InUse s e l → s.layer (unit_of_line s l) < s.layers
  pub top : (e : ℕ) (l : Line) → InUse s e l → s.top (unit_of_line s l) ≤ℤ s.height l
  pub bottom : (e : ℕ) (l : Line) → InUse s e l → s.height l ≤ℤ s.bottom (unit_of_line s l)
  pub clear : (e : ℕ) (l : Line) (c : ℕ) → InUse s e l → IsLaneAt s l c → LaneClear s l c
  pub no_child : (e u c : ℕ) → InUse s e (long_lane u) → ChildStands s c → u ≢ s.unit_of c
  pub differ : (e f : ℕ) (l m : Line) (side : Side) → InUse s e l → InUse s f m → Reaches side l → Reaches side m
      → unit_of_line s l ≡ unit_of_line s m → s.height l ≡ s.height m → l ≡ m

-- A pin of a net of e in gap g is the end of a line of e at the border of the column beside the gap.
pub record IsPinOf (s : Stage) (e g : ℕ) (p : Pin) : Type 0 where
  pub line : Line
  pub in_use : InUse s e line
  pub height : s.height line ≡ p.height
  pub left : p.on_left ≡ true → (s.layer (unit_of_line s line) + 1 ≡ g) × Reaches East line
  pub right : p.on_left ≡ false → (s.layer (unit_of_line s line) ≡ g) × Reaches West line

-- the nets of a gap keep apart, and each pin is the end of a line of the net's edge
pub record NetsStand (s : Stage) (g : ℕ) : Type 0 where
  pub free : GapFree (gap_in s.gaps g).nets (gap_in s.gaps g).count (gap_in s.gaps g).routes
  pub pins : (k : ℕ) (p : Pin) → k < length (gap_in s.gaps g).nets → HasPin (net_at (gap_in s.gaps g).nets k) p
      → IsPinOf s (s.net_edge g k) g p

-- everything stands where it should
pub record Stands (s : Stage) : Type 0 where
  pub row : InRow s
  pub gap : (g : ℕ) → g < length s.gaps → InGap s g
  pub inner : (g : ℕ) → g < length s.gaps → IsInner s g
  pub column : InColumn s
  pub one_child : (c d : ℕ) → ChildStands s c → ChildStands s d → s.unit_of c ≡ s.unit_of d → c ≡ d
  pub ends : (e : ℕ) (t : Bool) → e < s.edges → EndStands s e t
  pub lines : LinesStand s
  pub nets : (g : ℕ) → g < length s.gaps → NetsStand s g
