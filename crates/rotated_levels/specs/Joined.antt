-- Drawings of a level's connected parts, put together in rows.
use Rattle.std.specs.Prelude.{◌≡◌, ◌≢◌, ◌⊎◌, ℕ, ◌<◌, ◌≤ℤ◌, List, [], ℤ, pos, length, map, slice_index, slice_index_or}
use Rattle.drawing_types.specs.declared.shape.Point.{Point}
use Rattle.drawing_types.specs.declared.shape.Rect.{Rect}
use Rattle.drawing_types.specs.declared.shape.Size.{Size}
use Rattle.drawing_types.specs.declared.section.Section.{Section}
use Rattle.drawing_types.specs.Clearance.{StandsClear}
use Rattle.drawing_types.specs.Shapes.{Holds, point_rect, rect_at}
use Rattle.box_pack.specs.declared.packing.Rows.{Rows}
use Rattle.box_pack.specs.Boxes.{point_at, size_at}
use Rattle.box_pack.specs.Packed.{AreRows}
use Rattle.level_draw.specs.Drawing.{IsDrawing, IsTight}
use Rattle.level_model.specs.Conditions.{IsLevel}
use Rattle.level_model.specs.FromPlan.{LevelDrawing, point_or, section_at}
use Rattle.level_model.specs.Level.{Orders, PlainLevel, PlainPlan, holds}
use Rattle.plan_laws.specs.Routes.{RoutesKept, route_count, route_point}
use Rattle.level_model.specs.Apart.{ChildrenApart, drawn_outline}
use Rattle.level_model.specs.PortsKept.{ArePortsPlaced, KeepsPorts}
use Rattle.level_model.specs.Ready.{IsReady}
use Rattle.network_parts.specs.Divided.{place_of}
use Rattle.network_parts.specs.Dividing.{AreCounted}
use Rattle.level_parts.specs.Divided.{edge_keys, edge_number, members, part_level}
use Rattle.level_parts.specs.Parts.{AreParts}
use Rattle.route_lines.specs.Points.{PlainGap}
use Rattle.working_frame.specs.Drawing.{plus}

-- a section that is moved
abbrev pub moved_section : Point → Section → Section
moved_section by s = record { start = plus by s.start; bends = map (plus by) s.bends; end = plus by s.end }

-- The parts have these numbers, by child; each has a place and a drawing of its own. A child has its box, and an edge its section,
-- from the drawing of its part, moved to the part's place; ports, which are measured from their boxes, are not moved.
pub record IsJoinedDrawing (l : PlainLevel) (numbers : List ℕ) (at : ℕ → Point) (own : ℕ → LevelDrawing) (v : LevelDrawing) : Type 0 where
  pub box_count : length v.boxes ≡ length l.children
  pub boxes : (c : ℕ) → c < length l.children
      → point_or v.boxes c ≡ plus (at (slice_index numbers c)) (point_or (own (slice_index numbers c)).boxes (place_of numbers c))
  pub port_lists : length v.ports ≡ length l.children
  pub ports : (c : ℕ) → c < length l.children
      → slice_index_or v.ports c [] ≡ slice_index_or (own (slice_index numbers c)).ports (place_of numbers c) []
  pub section_count : length v.sections ≡ length l.edges
  pub sections : (e : ℕ) → e < length l.edges
      → section_at v e
      ≡ moved_section (at (slice_index (edge_keys l numbers) e))
      (section_at (own (slice_index (edge_keys l numbers) e)) (place_of (edge_keys l numbers) e))

-- Each part is drawn from a plan of its own. The plans turn those edges round that are listed.
pub record AreDrawn (l : PlainLevel) (numbers : List ℕ) (count : ℕ) (plans : ℕ → PlainPlan) (orders : ℕ → Orders)
    (layers : ℕ → List ℕ) (own : ℕ → LevelDrawing) (listed : List ℕ) : Type 0 where
  pub level : IsLevel l
  pub numbered : AreParts l numbers
  pub counted : AreCounted numbers (length numbers) count
  pub ready : (k : ℕ) → k < count → IsReady (part_level l numbers k) (plans k) (orders k) (layers k)
  pub drawing : (k : ℕ) → k < count → IsDrawing (part_level l numbers k) (plans k) (layers k) (own k)
  pub is_reversed : (k j : ℕ) → k < count → j < length (members (edge_keys l numbers) k)
      → holds (plans k).reversed j ≡ holds listed (edge_number l numbers k j)

-- the extents of the drawings stand in rows with a gap of at least 1
pub record AreInRows (count : ℕ) (gap limit : ℤ) (own : ℕ → LevelDrawing) (rows : Rows) : Type 0 where
  pub sizes : List Size
  pub as_many : length sizes ≡ count
  pub are : (k : ℕ) → k < count → size_at sizes k ≡ (own k).extent
  pub gap_above : pos 1 ≤ℤ gap
  pub rows_are : AreRows sizes gap limit rows

-- a drawing with other gaps, from which nothing is moved
abbrev pub with_gaps : LevelDrawing → List PlainGap → LevelDrawing
with_gaps v gaps =
    record {
      gaps = gaps;
      traces = v.traces;
      boxes = v.boxes;
      ports = v.ports;
      sections = v.sections;
      extent = v.extent;
      left = pos 0;
      top = pos 0;
    }

-- Some plan that turns the listed edges round places all children, ports and routes where they are drawn, and by its docks all rules
-- of ports and routes are kept; the drawing begins at 0 and its extent is tight.
pub record KeepsRules (l : PlainLevel) (listed : List ℕ) (v : LevelDrawing) : Type 0 where
  pub plan : PlainPlan
  pub orders : Orders
  pub gaps : List PlainGap
  pub is_reversed : plan.reversed ≡ listed
  pub placed : ArePortsPlaced l plan orders (with_gaps v gaps)
  pub ports : (c : ℕ) → c < length l.children → KeepsPorts l plan orders (with_gaps v gaps) c
  pub routes : RoutesKept l plan orders (with_gaps v gaps)
  pub tight : IsTight l (with_gaps v gaps)

-- where part k stands
abbrev pub part_rect : (ℕ → Point) → (ℕ → LevelDrawing) → ℕ → Rect
part_rect at own k = rect_at (at k) (own k).extent

-- Outlines and routes lie where their parts stand, and of two parts one stands left of the other or above it, with the gap between
-- them. The children of one part keep their distances.
pub record KeepsParts (l : PlainLevel) (numbers : List ℕ) (count : ℕ) (gap : ℤ) (at : ℕ → Point) (layers : ℕ → List ℕ)
    (own : ℕ → LevelDrawing) (v : LevelDrawing) : Type 0 where
  pub outlines : (c : ℕ) → c < length l.children → Holds (part_rect at own (slice_index numbers c)) (drawn_outline l v c)
  pub points : (e i : ℕ) → e < length l.edges → i < route_count v e
      → Holds (part_rect at own (slice_index (edge_keys l numbers) e)) (point_rect (route_point v e i))
  pub clear : (j k : ℕ) → j < count → k < count → j ≢ k
      → StandsClear gap (part_rect at own j) (part_rect at own k) ⊎ StandsClear gap (part_rect at own k) (part_rect at own j)
  pub children : (written : List ℕ)
      → ((c : ℕ) → c < length l.children → slice_index written c ≡ slice_index (layers (slice_index numbers c)) (place_of numbers c))
      → (b c : ℕ) → b < length l.children → c < length l.children → b ≢ c → slice_index numbers b ≡ slice_index numbers c
      → ChildrenApart l v written b c

pub record IsWholeDrawing (l : PlainLevel) (numbers : List ℕ) (count : ℕ) (gap : ℤ) (at : ℕ → Point) (layers : ℕ → List ℕ)
    (own : ℕ → LevelDrawing) (listed : List ℕ) (v : LevelDrawing) : Type 0 where
  pub rules : KeepsRules l listed v
  pub parts : KeepsParts l numbers count gap at layers own v

-- So it is wherever drawings of the parts are put together.
abbrev pub DrawingsJoin : Type 0
DrawingsJoin =
    (l : PlainLevel) (numbers : List ℕ) (count : ℕ) (plans : ℕ → PlainPlan) (orders : ℕ → Orders) (layers : ℕ → List ℕ)
    (own : ℕ → LevelDrawing) (listed : List ℕ) (gap limit : ℤ) (rows : Rows) (v : LevelDrawing)
    → AreDrawn l numbers count plans orders layers own listed → AreInRows count gap limit own rows
    → IsJoinedDrawing l numbers (point_at rows.at) own v → v.extent ≡ rows.extent
    → IsWholeDrawing l numbers count gap (point_at rows.at) layers own listed v
