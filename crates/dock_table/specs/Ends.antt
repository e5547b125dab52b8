-- The docks of edges' ends as a list, the lanes of self-loops, and the units of children.
use Rattle.std.specs.Prelude.{◌≡◌, ℕ, ◌+◌, ◌*◌, ◌<◌, ◌≤◌, ◌^◌, ◌==◌, cond, Bool, true, false, ◌&&◌, List, length, Option, None, Some}
use Rattle.std.specs.Prelude.{slice_index, slice_set}
use Rattle.std.specs.List.{filter, range_with_len}
use Rattle.drawing_types.specs.declared.shape.Side.{Side}
use Rattle.drawing_types.specs.declared.shape.Side.TheVariants.{North, South}
use Rattle.drawing_types.specs.declared.shape.Dock.{Dock}
use Rattle.elk_layers.specs.Layered.{Plain, unit_at}
use Rattle.level_model.specs.Level.{PlainLevel, PlainPlan, Orders, dock_of, edge_at, end_at, is_loop}
use Rattle.level_model.specs.Nets.{is_number}
use Rattle.dock_table.specs.declared.loops.LoopLanes.{LoopLanes}
use Rattle.dock_table.specs.Lanes.{loop_lane_on}
use Rattle.dock_table.specs.Outlines.{dock_in}

-- two ends for each edge, that at its source first
pub record AreEndDocks (l : PlainLevel) (p : PlainPlan) (o : Orders) (count : ℕ) (ends : List Dock) : Type 0 where
  pub as_long : length ends ≡ 2 * count
  pub sources : (e : ℕ) → e < count → dock_in ends (2 * e) ≡ dock_of l p o (end_at e true)
  pub targets : (e : ℕ) → e < count → dock_in ends (2 * e + 1) ≡ dock_of l p o (end_at e false)

-- the side of lanes that are in the north, or in the south
abbrev pub upright : Bool → Side
upright north = cond north North South

-- an edge is a self-loop of a child with a lane on a side
abbrev pub loop_on : PlainLevel → List Dock → Side → ℕ → ℕ → Bool
loop_on l ends side c e =
    (is_loop l e && ((edge_at l e).source.child == c)) && loop_lane_on (dock_in ends (2 * e)) (dock_in ends (2 * e + 1)) side

abbrev pub loops_to : PlainLevel → List Dock → Side → ℕ → ℕ → ℕ
loops_to l ends side c e = length (filter (loop_on l ends side c) (range_with_len 0 e))

-- an edge's lane is counted at its child and its place is noted, where it has one
pub record CountsLoop (counted : Bool) (e child : ℕ) (old new : LoopLanes) : Type 0 where
  pub counts : counted ≡ true → new.counts.items ≡ slice_set old.counts.items child (slice_index old.counts.items child + 1)
  pub places : counted ≡ true → new.places.items ≡ slice_set old.places.items e (slice_index old.counts.items child)
  pub kept : counted ≡ false → new ≡ old

-- by child, how many of the first edges have a lane on a side, and by edge, the place of its lane among its child's
pub record AreLoopLanes (l : PlainLevel) (ends : List Dock) (side : Side) (count : ℕ) (v : LoopLanes) : Type 0 where
  pub child_count : length v.counts.items ≡ length l.children
  pub edge_count : length v.places.items ≡ length l.edges
  pub count_is : (c : ℕ) → c < length l.children → slice_index v.counts.items c ≡ loops_to l ends side c count
  pub place_is : (e : ℕ) → e < count → loop_on l ends side (edge_at l e).source.child e ≡ true
      → slice_index v.places.items e ≡ loops_to l ends side (edge_at l e).source.child e
  pub few : (e : ℕ) → slice_index v.places.items e ≤ 2 ^ 16

-- a list of units by child, with one more unit noted
abbrev pub with_unit : Option ℕ → ℕ → List ℕ → List ℕ
with_unit None u units = units
with_unit (Some c) u units = slice_set units c u

-- whether a unit is a child's
abbrev pub is_unit_of : Plain → ℕ → ℕ → Bool
is_unit_of l c u = is_number (unit_at l.units u).child c

-- children of units lie below a bound
abbrev pub HaveChildren : Plain → ℕ → Type 0
HaveChildren l count = (u c : ℕ) → u < length l.units → (unit_at l.units u).child ≡ Some c → c < count
