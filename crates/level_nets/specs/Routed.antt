-- The gaps of a level are those of its plan, and the places of nets are those of their names.
use Rattle.std.specs.Prelude.{◌≡◌, ℕ, ◌<◌, ◌^◌, ◌*◌, ◌&&◌, Bool, true, false, List, [], ℤ, pos, length, slice_index, IsTrue}
use Rattle.drawing_types.specs.declared.shape.Side.TheVariants.{East, West}
use Rattle.elk_layers.specs.Layered.{IsFromZero}
use Rattle.self_loops.specs.Loops.{passes_left, passes_right}
use Rattle.route_lines.specs.declared.Gap.{Gap}
use Rattle.route_lines.specs.Points.{PlainGap, gap_in}
use Rattle.level_model.specs.Level.{PlainLevel, PlainPlan, Orders, end_at, is_loop, dock_of}
use Rattle.level_model.specs.Lanes.{has_one_dock}
use Rattle.level_model.specs.Nets.{Name, of_link, of_dock, of_loop, gap_of, names_in, place_of_name, is_inverted}
use Rattle.level_model.specs.FromPlan.{LevelDrawing, IsGap}
use Rattle.level_nets.specs.declared.routing.Places.{Places}
use Rattle.level_nets.specs.declared.routing.Routing.{Routing}
use Rattle.level_nets.specs.Parts.{Parts, ArePlanned, plan_of}
use Rattle.level_model.specs.Table.{end_number}
use Rattle.level_nets.specs.Read.{HoldNets, names_of, left_of}
use Rattle.level_nets.specs.Held.{AreLinkLegs, AreDockLegs, AreLoopLegs, legs_at, plain_gaps}
use Rattle.level_nets.specs.Placed.{IsPlaced, counts_of}

pub record AreEmpty (n : ℕ) (gaps : List PlainGap) : Type 0 where
  pub as_many : length gaps ≡ n
  pub none : (g : ℕ) → g < n → (gap_in gaps g).nets ≡ []

-- the places of all nets
pub record ArePlaces (s : Parts) (v : Places) : Type 0 where
  pub links : AreLinkLegs s (length s.layered.links) v.links.items
  pub docks : AreDockLegs s (length s.level.edges) v.docks.items
  pub loops : AreLoopLegs s (length s.level.edges) v.loops.items

-- all nets of the level are in their gaps, and the gaps have borders and slots
pub record AreRouted (s : Parts) (gaps : List PlainGap) : Type 0 where
  pub held : HoldNets s (names_of s) gaps
  pub placed : (g : ℕ) → g < length gaps → IsPlaced s g (left_of s (counts_of gaps) g) (gap_in gaps g)

-- a drawing that has these gaps and nothing else, and was moved so far to the left and so far up
abbrev pub drawn_with : List PlainGap → ℤ → ℤ → LevelDrawing
drawn_with gaps left top =
    record {
      gaps = gaps;
      traces = [];
      boxes = [];
      ports = [];
      sections = [];
      extent = record { width = pos 0; height = pos 0 };
      left = left;
      top = top;
    }

-- the gaps of the plan, under all orders and rows from which its units can come
abbrev pub AreGapsOf : Parts → List Gap → Type 0
AreGapsOf s gaps =
    (rows : List (List ℕ)) (o : Orders) (layers : List ℕ) → ArePlanned s rows o layers
    → (g : ℕ) → g < length gaps → IsGap s.level (plan_of s rows) o (drawn_with (plain_gaps gaps) (pos 0) (pos 0)) g

-- the place of a name among those of its gap
abbrev pub place_in_gap : PlainLevel → PlainPlan → Orders → Name → ℕ
place_in_gap l p o n = place_of_name (names_in l p o (gap_of l p o n)) n

-- whether an edge passes the gap on the left of its child, and the one on the right
abbrev pub is_passing_left : PlainLevel → PlainPlan → Orders → ℕ → Bool
is_passing_left l p o e =
    is_loop l e && passes_left (dock_of l p o (end_at e true)).side (dock_of l p o (end_at e false)).side (has_one_dock l p o e)

abbrev pub is_passing_right : PlainLevel → PlainPlan → Orders → ℕ → Bool
is_passing_right l p o e =
    is_loop l e && passes_right (dock_of l p o (end_at e true)).side (dock_of l p o (end_at e false)).side (has_one_dock l p o e)

-- the places of nets, by link, by end and by edge
pub record AreLegs (l : PlainLevel) (p : PlainPlan) (o : Orders) (r : Routing) : Type 0 where
  pub link_count : length r.links ≡ length p.layered.links
  pub dock_count : length r.docks ≡ 2 * length l.edges
  pub loop_count : length r.loops ≡ length l.edges
  pub links : (k : ℕ) → k < length p.layered.links → slice_index r.links k ≡ place_in_gap l p o (of_link k)
  pub docks : (e : ℕ) (at_source : Bool) → e < length l.edges → IsTrue (is_inverted l p o (end_at e at_source))
      → slice_index r.docks (end_number (end_at e at_source)) ≡ place_in_gap l p o (of_dock (end_at e at_source))
  pub west : (e : ℕ) → e < length l.edges → IsTrue (is_passing_left l p o e)
      → (legs_at r.loops e).west ≡ place_in_gap l p o (of_loop e West)
  pub east : (e : ℕ) → e < length l.edges → IsTrue (is_passing_right l p o e)
      → (legs_at r.loops e).east ≡ place_in_gap l p o (of_loop e East)

abbrev pub AreLegsOf : Parts → Routing → Type 0
AreLegsOf s r =
    (rows : List (List ℕ)) (o : Orders) (layers : List ℕ) → ArePlanned s rows o layers → AreLegs s.level (plan_of s rows) o r

-- borders and slots lie from 0 to 2^51
pub record IsGapIn (g : PlainGap) : Type 0 where
  pub left : IsFromZero g.left (pos (2 ^ 51))
  pub first : IsFromZero g.first (pos (2 ^ 51))
  pub right : IsFromZero g.right (pos (2 ^ 51))

abbrev pub AreGapsIn : List Gap → Type 0
AreGapsIn gaps = (g : ℕ) → g < length gaps → IsGapIn (gap_in (plain_gaps gaps) g)
