-- What lies in range, so that the nets of a level can be read off without a number that doesn't fit.
use Rattle.std.specs.Prelude.{◌≡◌, ℕ, ◌+◌, ◌*◌, ◌<◌, ◌≤◌, ◌^◌, Bool, false, List, ℤ, pos, neg_ℤ, ◌-ℤ◌, ◌≤ℤ◌, length, slice_index_or, IsTrue}
use Rattle.std.specs.List.{All}
use Rattle.drawing_types.specs.declared.shape.Side.{Side}
use Rattle.drawing_types.specs.declared.shape.Dock.{Dock}
use Rattle.drawing_types.specs.Shapes.{is_side}
use Rattle.drawing_types.specs.Ranges.{IsWithin}
use Rattle.elk_layers.specs.Layered.{plain, IsSound, IsFromZero, unit_at}
use Rattle.net_routes.specs.declared.Net.{Net}
use Rattle.net_routes.specs.GapFree.{IsNet, AreHeights}
use Rattle.self_loops.specs.Loops.{is_upright}
use Rattle.level_model.specs.Level.{End, end_at, holds}
use Rattle.level_model.specs.Nets.{lane_side_of_end}
use Rattle.level_model.specs.Table.{loop_in, child_in}
use Rattle.level_nets.specs.declared.sheet.Sheet.{Sheet}
use Rattle.elk_layers.specs.Lines.{top_of}
use Rattle.level_nets.specs.Parts.{Parts, parts, EndAbove}
use Rattle.level_nets.specs.Read.{columns_of, at_end, dock_at, child_of, unit_of_dock, dock_inverts, passes_on, lane_of_loop}

abbrev pub parts_in : Sheet → Parts
parts_in t = parts t.level.now t.layered.now t.tops.now t.reversed.now t.table.now

-- a side beside a gap: east or west
abbrev pub IsBeside : Side → Type 0
IsBeside side = is_upright side ≡ false

-- so far below the top of a unit
abbrev pub IsBelow : ℤ → Type 0
IsBelow z = IsWithin (neg_ℤ (pos (2 ^ 50))) (pos (2 ^ 50)) z

-- a dock's child and unit are there, and its offset lies near the outline
pub record IsDockIn (s : Parts) (d : Dock) : Type 0 where
  pub child : d.node < length s.table.children
  pub unit : unit_of_dock s d < length s.layered.units
  pub body : IsFromZero (unit_at s.layered.units (unit_of_dock s d)).body_top (pos (2 ^ 49))
  pub anchor : IsBeside d.side → IsWithin (neg_ℤ (pos (2 ^ 49))) (pos (2 ^ 49)) (d.offset -ℤ (child_of s d).outline.y)

pub record IsEndIn (s : Parts) (n : End) : Type 0 where
  pub dock : IsDockIn s (dock_at s n)
  pub lane : IsTrue (dock_inverts s n) → IsBelow (at_end s n).lane

-- an end of a self-loop that passes the gap on a side comes there by its anchor or by a lane in range
abbrev pub IsPassing : Parts → ℕ → Side → Dock → Type 0
IsPassing s e side d =
    is_side d.side side ≡ false → IsBelow (lane_of_loop (loop_in s.table.loops e) (lane_side_of_end d.side))

pub record AreInReach (s : Parts) : Type 0 where
  pub as_many_tops : length s.tops ≡ length s.layered.units
  pub tops : (u : ℕ) → u < length s.layered.units → pos 0 ≤ℤ top_of s.tops u
  pub bottoms : EndAbove s
  pub as_many_ends : length s.table.ends ≡ 2 * length s.level.edges
  pub as_many_loops : length s.table.loops ≡ length s.level.edges
  pub as_many_children : length s.table.children ≡ length s.level.children
  pub few_children : length s.level.children ≤ 2048
  pub few_edges : length s.level.edges ≤ 2048
  pub few_layers : s.layered.layers ≤ 2048
  pub children : (c : ℕ) → c < length s.level.children → (child_in s.table.children c).unit < length s.layered.units
  pub ends : (e : ℕ) (at_source : Bool) → e < length s.level.edges → IsEndIn s (end_at e at_source)
  pub loops : (e : ℕ) (side : Side) (at_source : Bool) → e < length s.level.edges → IsTrue (passes_on s e side)
      → IsPassing s e side (dock_at s (end_at e at_source))

-- All nets of a gap have two different pins in range, and there are few of them; and the columns left of each gap are not
-- wide.
pub record AreNetsIn (nets : List Net) : Type 0 where
  pub few : length nets ≤ 2 ^ 14
  pub pins : All IsNet nets
  pub heights : All AreHeights nets

abbrev pub AreColumnsIn : Parts → Type 0
AreColumnsIn s = (g : ℕ) → g ≤ s.layered.layers + 1 → IsFromZero (columns_of s g) (pos (2 ^ 48))

-- a sheet of such a level, with a mark at each edge that is reversed
pub record IsSheet (t : Sheet) : Type 0 where
  pub sound : IsSound (plain t.layered.now)
  pub reach : AreInReach (parts_in t)
  pub as_many_marks : length t.is_reversed.now ≡ length t.level.now.edges
  pub marks : (e : ℕ) → e < length t.is_reversed.now → slice_index_or t.is_reversed.now e false ≡ holds t.reversed.now e
