-- The nets of a level and their gaps, read off the table of the level.
use Rattle.std.specs.Prelude.{◌≡◌, ℕ, zero, suc, pos, ◌+◌, ◌<◌, ◌==◌, cond, Bool, true, false, not, ◌&&◌, List, [], ◌∷◌, ◌++◌, map, ℤ}
use Rattle.std.specs.Prelude.{◌+ℤ◌, ◌-ℤ◌, length}
use Rattle.std.specs.List.{filter, range_with_len}
use Rattle.std.specs.Ordering.{int_eq}
use Rattle.std.specs.Int.{int_max}
use Rattle.drawing_types.specs.declared.shape.Side.{Side}
use Rattle.drawing_types.specs.declared.shape.Side.TheVariants.{East, South, West}
use Rattle.drawing_types.specs.declared.shape.Dock.{Dock}
use Rattle.drawing_types.specs.Shapes.{is_side}
use Rattle.elk_layers.specs.Layered.{unit_at, link_at, layer_of}
use Rattle.elk_layers.specs.Lines.{top_of}
use Rattle.net_routes.specs.declared.Pin.{Pin}
use Rattle.net_routes.specs.declared.Net.{Net}
use Rattle.route_lines.specs.Points.{PlainGap, gap_in}
use Rattle.self_loops.specs.Loops.{passes_left, passes_right}
use Rattle.level_model.specs.declared.table.EndAt.{EndAt}
use Rattle.level_model.specs.declared.table.LoopAt.{LoopAt}
use Rattle.level_model.specs.declared.table.ChildAt.{ChildAt}
use Rattle.level_model.specs.Level.{End, end_at, enters, is_loop, all_ends}
use Rattle.level_model.specs.Nets.{Name, gap_width, of_link, of_dock, of_loop, inverts, if_passed, lane_side_of_end}
use Rattle.level_model.specs.Table.{end_in, end_number, loop_in, child_in}
use Rattle.level_nets.specs.Parts.{Parts, plan_of}

-- the number of an end: two for each edge, its source first
abbrev pub at_end : Parts → End → EndAt
at_end s n = end_in s.table.ends (end_number n)

abbrev pub dock_at : Parts → End → Dock
dock_at s n = (at_end s n).dock

-- the child of a dock, and the child's unit
abbrev pub child_of : Parts → Dock → ChildAt
child_of s d = child_in s.table.children d.node

abbrev pub unit_of_dock : Parts → Dock → ℕ
unit_of_dock s d = (child_of s d).unit

-- whether an end's dock is inverted for its edge
abbrev pub dock_inverts : Parts → End → Bool
dock_inverts s n = not (is_loop s.level n.edge) && inverts (dock_at s n).side (enters (plan_of s []) n)

-- whether the two ends of a self-loop have one dock, and whether an edge passes a gap as a self-loop
abbrev pub is_one_dock : Parts → ℕ → Bool
is_one_dock s e =
    is_side (dock_at s (end_at e true)).side (dock_at s (end_at e false)).side
    && int_eq (dock_at s (end_at e true)).offset (dock_at s (end_at e false)).offset

abbrev pub passes_west : Parts → ℕ → Bool
passes_west s e =
    is_loop s.level e && passes_left (dock_at s (end_at e true)).side (dock_at s (end_at e false)).side (is_one_dock s e)

abbrev pub passes_east : Parts → ℕ → Bool
passes_east s e =
    is_loop s.level e && passes_right (dock_at s (end_at e true)).side (dock_at s (end_at e false)).side (is_one_dock s e)

abbrev pub passes_on : Parts → ℕ → Side → Bool
passes_on s e West = passes_west s e
passes_on s e East = passes_east s e
passes_on s e _ = false

-- the names of all nets: of links, of inverted docks by end, and of self-loops by edge
abbrev pub link_names : ℕ → List Name
link_names n = map of_link (range_with_len 0 n)

abbrev pub dock_names : Parts → List End → List Name
dock_names s ns = map of_dock (filter (dock_inverts s) ns)

abbrev pub passing_names : Parts → List ℕ → List Name
passing_names s [] = []
passing_names s (e ∷ es) = if_passed (passes_west s e) e West ++ if_passed (passes_east s e) e East ++ passing_names s es

abbrev pub names_of : Parts → List Name
names_of s =
    link_names (length s.layered.links) ++ dock_names s (all_ends s.level) ++ passing_names s (range_with_len 0 (length s.level.edges))

-- the gap on a side of the column of a dock's child
abbrev pub gap_at : Parts → Dock → Side → ℕ
gap_at s d East = layer_of s.layered (unit_of_dock s d) + 1
gap_at s d _ = layer_of s.layered (unit_of_dock s d)

unfoldable pub gap_named : Parts → Name → ℕ
gap_named s (of_link k) = layer_of s.layered (link_at s.layered.links k).head
gap_named s (of_dock n) = gap_at s (dock_at s n) (dock_at s n).side
gap_named s (of_loop e side) = gap_at s (dock_at s (end_at e true)) side

-- a height below the top of the unit of a dock's child
abbrev pub below_unit : Parts → Dock → ℤ → ℤ
below_unit s d z = top_of s.tops (unit_of_dock s d) +ℤ z

-- the height of an anchor on the east or west side, of the lane of an end's dock, and of a lane of a self-loop
abbrev pub anchor_below : Parts → Dock → ℤ
anchor_below s d = (unit_at s.layered.units (unit_of_dock s d)).body_top +ℤ (d.offset -ℤ (child_of s d).outline.y)

abbrev pub lane_of_loop : LoopAt → Side → ℤ
lane_of_loop v South = v.south
lane_of_loop v _ = v.north

abbrev pub loop_below : Parts → ℕ → Dock → Side → ℤ
loop_below s e d side = cond (is_side d.side side) (anchor_below s d) (lane_of_loop (loop_in s.table.loops e) (lane_side_of_end d.side))

abbrev pub pin : Bool → ℤ → Pin
pin on_left h = record { on_left = on_left; height = h }

abbrev pub link_net : Parts → ℕ → Net
link_net s k =
    record {
      a = pin true (top_of s.tops (link_at s.layered.links k).tail +ℤ (link_at s.layered.links k).tail_at);
      b = pin false (top_of s.tops (link_at s.layered.links k).head +ℤ (link_at s.layered.links k).head_at);
    }

abbrev pub dock_net : Parts → End → Net
dock_net s n =
    record {
      a = pin (is_side (dock_at s n).side East) (below_unit s (dock_at s n) (at_end s n).lane);
      b = pin (is_side (dock_at s n).side East) (below_unit s (dock_at s n) (anchor_below s (dock_at s n)));
    }

abbrev pub loop_pin : Parts → ℕ → End → Side → Pin
loop_pin s e n side = pin (is_side side East) (below_unit s (dock_at s n) (loop_below s e (dock_at s n) side))

abbrev pub loop_net : Parts → ℕ → Side → Net
loop_net s e side = record { a = loop_pin s e (end_at e true) side; b = loop_pin s e (end_at e false) side }

unfoldable pub net_named : Parts → Name → Net
net_named s (of_link k) = link_net s k
net_named s (of_dock n) = dock_net s n
net_named s (of_loop e side) = loop_net s e side

-- those of some names that lie in a gap, and their nets
unfoldable pub in_gap : Parts → List Name → ℕ → List Name
in_gap s names g = filter (λ n. gap_named s n == g) names

abbrev pub nets_named : Parts → List Name → ℕ → List Net
nets_named s names g = map (net_named s) (in_gap s names g)

-- the gaps hold the nets of these names, and nothing else
pub record HoldNets (s : Parts) (names : List Name) (gaps : List PlainGap) : Type 0 where
  pub as_many : length gaps ≡ s.layered.layers + 1
  pub nets : (g : ℕ) → g < length gaps → (gap_in gaps g).nets ≡ nets_named s names g

-- the number of a net that is added behind these: how many of them lie in its gap
abbrev pub leg_behind : Parts → List Name → Name → ℕ
leg_behind s names n = length (in_gap s names (gap_named s n))

-- the greatest width of the outlines of a layer, 0 without children
abbrev pub widest_of : Parts → ℕ → List ℕ → ℤ
widest_of s r [] = pos 0
widest_of s r (c ∷ cs) =
    cond (layer_of s.layered (child_in s.table.children c).unit == r)
    (int_max (child_in s.table.children c).outline.width (widest_of s r cs)) (widest_of s r cs)

unfoldable pub width_of : Parts → ℕ → ℤ
width_of s r = widest_of s r (range_with_len 0 (length s.level.children))

-- the left border of a gap, from the widths of the gaps and columns left of it
unfoldable pub left_of : Parts → (ℕ → ℕ) → ℕ → ℤ
left_of s counts zero = pos 0
left_of s counts (suc g) = left_of s counts g +ℤ gap_width s.level (plan_of s []) g (counts g) +ℤ width_of s g

-- the widths of the columns left of one, together
unfoldable pub columns_of : Parts → ℕ → ℤ
columns_of s zero = pos 0
columns_of s (suc r) = columns_of s r +ℤ width_of s r
