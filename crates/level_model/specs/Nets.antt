-- The heights of lines, the nets of gaps, and the columns.
use Rattle.std.specs.Prelude.{ℕ, zero, suc, ◌+◌, ◌-◌, ◌==◌, cond, Bool, true, false, not, ◌&&◌, ◌||◌, List, [], ◌∷◌, ◌++◌, map, ℤ, pos}
use Rattle.std.specs.Prelude.{◌+ℤ◌, ◌-ℤ◌, ◌*ℤ◌, Option, None, Some, length}
use Rattle.std.specs.List.{filter, range_with_len}
use Rattle.std.specs.Int.{int_max}
use Rattle.drawing_types.specs.declared.shape.Side.{Side}
use Rattle.drawing_types.specs.declared.shape.Side.TheVariants.{North, East, South, West}
use Rattle.drawing_types.specs.declared.shape.Dock.{Dock}
use Rattle.drawing_types.specs.Shapes.{is_side}
use Rattle.elk_layers.specs.Layered.{unit_at, link_at, is_child, layer_of}
use Rattle.elk_layers.specs.Lines.{top_of}
use Rattle.net_routes.specs.declared.Pin.{Pin}
use Rattle.net_routes.specs.declared.Net.{Net}
use Rattle.self_loops.specs.Loops.{passes_left, passes_right, is_upright}
use Rattle.level_model.specs.Stage.{Line, anchor_line, dock_lane, loop_lane, long_lane}
use Rattle.level_model.specs.Level.{PlainLevel, PlainPlan, Orders, End, end_at, edge_at, all_ends, end_eq, spoke, enters, tail_end}
use Rattle.level_model.specs.Level.{head_end}
use Rattle.level_model.specs.Level.{is_loop, dock_of, outline, first_or}
use Rattle.level_model.specs.Lanes.{lane_side, loop_lane_height, body_top, has_one_dock}

-- the unit of a child
abbrev pub is_number : Option ℕ → ℕ → Bool
is_number None n = false
is_number (Some m) n = m == n

abbrev pub unit_of : PlainPlan → ℕ → ℕ
unit_of p c = first_or (filter (λ u. is_number (unit_at p.layered.units u).child c) (range_with_len 0 (length p.layered.units))) 0

abbrev pub layer_of_child : PlainPlan → ℕ → ℕ
layer_of_child p c = layer_of p.layered (unit_of p c)

-- the unit of a line
abbrev pub unit_of_line : PlainLevel → PlainPlan → Line → ℕ
unit_of_line l p (anchor_line d) = unit_of p d.node
unit_of_line l p (dock_lane d) = unit_of p d.node
unit_of_line l p (loop_lane e side) = unit_of p (edge_at l e).source.child
unit_of_line l p (long_lane u) = u

-- the height of a child's box, and of a line, below the top of the unit
abbrev pub box_below : PlainLevel → PlainPlan → Orders → ℕ → ℤ
box_below l p o c = body_top l p o c -ℤ (outline l p o c).y

abbrev pub below_top : PlainLevel → PlainPlan → Orders → Line → ℤ
below_top l p o (anchor_line d) = box_below l p o d.node +ℤ d.offset
below_top l p o (dock_lane d) = loop_lane_height l p o d.node (lane_side l d) (dock_lane d)
below_top l p o (loop_lane e side) = loop_lane_height l p o (edge_at l e).source.child side (loop_lane e side)
below_top l p o (long_lane u) = pos 0

-- the same heights before the shift of the level
abbrev pub box_top : PlainLevel → PlainPlan → Orders → ℕ → ℤ
box_top l p o c = top_of p.tops (unit_of p c) +ℤ box_below l p o c

abbrev pub height_of : PlainLevel → PlainPlan → Orders → Line → ℤ
height_of l p o m = top_of p.tops (unit_of_line l p m) +ℤ below_top l p o m

-- a dock is inverted for an edge where it lies on the east side and the edge enters, or on the west side and it leaves
abbrev pub inverts : Side → Bool → Bool
inverts North enters = false
inverts East enters = enters
inverts South enters = false
inverts West enters = not enters

abbrev pub is_inverted : PlainLevel → PlainPlan → Orders → End → Bool
is_inverted l p o n = not (is_loop l n.edge) && inverts (dock_of l p o n).side (enters p n)

-- the line on which an end of a link lies: the lane of its dock where the dock lies north or south or is inverted, else
-- the anchor
abbrev pub line_of_end : PlainLevel → PlainPlan → Orders → End → Line
line_of_end l p o n =
    cond (is_upright (dock_of l p o n).side || is_inverted l p o n) (dock_lane (dock_of l p o n)) (anchor_line (dock_of l p o n))

-- the line of a link's tail and head: that of the edge's end at a child, and the lane of a long edge elsewhere
abbrev pub tail_line : PlainLevel → PlainPlan → Orders → ℕ → Line
tail_line l p o k =
    cond (is_child p.layered (link_at p.layered.links k).tail) (line_of_end l p o (tail_end p (link_at p.layered.links k).edge))
    (long_lane (link_at p.layered.links k).tail)

abbrev pub head_line : PlainLevel → PlainPlan → Orders → ℕ → Line
head_line l p o k =
    cond (is_child p.layered (link_at p.layered.links k).head) (line_of_end l p o (head_end p (link_at p.layered.links k).edge))
    (long_lane (link_at p.layered.links k).head)

-- The name of a net: a link, an inverted dock of an edge's end, or the passage of a self-loop through the gap on one side.
pub data Name : Type 0 where
  of_link : ℕ → Name
  of_dock : End → Name
  of_loop : ℕ → Side → Name

abbrev pub name_eq : Name → Name → Bool
name_eq (of_link j) (of_link k) = j == k
name_eq (of_dock m) (of_dock n) = end_eq m n
name_eq (of_loop e s) (of_loop f t) = (e == f) && is_side s t
name_eq _ _ = false

-- a side that is passed, as a list of at most one
abbrev pub if_passed : Bool → ℕ → Side → List Name
if_passed true e side = of_loop e side ∷ []
if_passed false e side = []

abbrev pub loop_names : PlainLevel → PlainPlan → Orders → List ℕ → List Name
loop_names l p o [] = []
loop_names l p o (e ∷ es) =
    if_passed
    (is_loop l e && passes_left (dock_of l p o (end_at e true)).side (dock_of l p o (end_at e false)).side (has_one_dock l p o e))
    e West
    ++ if_passed
    (is_loop l e && passes_right (dock_of l p o (end_at e true)).side (dock_of l p o (end_at e false)).side (has_one_dock l p o e))
    e East
    ++ loop_names l p o es

-- All nets of the level, each once: those of links, those of inverted docks by end, those of self-loops by edge.
abbrev pub all_names : PlainLevel → PlainPlan → Orders → List Name
all_names l p o =
    map of_link (range_with_len 0 (length p.layered.links)) ++ map of_dock (filter (is_inverted l p o) (all_ends l))
    ++ loop_names l p o (range_with_len 0 (length l.edges))

-- the gap on a side of a child's column
abbrev pub gap_beside : PlainPlan → ℕ → Side → ℕ
gap_beside p c East = layer_of_child p c + 1
gap_beside p c _ = layer_of_child p c

abbrev pub gap_of : PlainLevel → PlainPlan → Orders → Name → ℕ
gap_of l p o (of_link k) = layer_of p.layered (link_at p.layered.links k).head
gap_of l p o (of_dock n) = gap_beside p (spoke l n).child (dock_of l p o n).side
gap_of l p o (of_loop e side) = gap_beside p (edge_at l e).source.child side

abbrev pub edge_of : PlainPlan → Name → ℕ
edge_of p (of_link k) = (link_at p.layered.links k).edge
edge_of p (of_dock n) = n.edge
edge_of p (of_loop e side) = e

-- the line by which an end of a self-loop comes to the gap on a side: its anchor where its dock lies there, else its lane
abbrev pub lane_side_of_end : Side → Side
lane_side_of_end South = South
lane_side_of_end _ = North

abbrev pub loop_line : ℕ → Dock → Side → Line
loop_line e d side = cond (is_side d.side side) (anchor_line d) (loop_lane e (lane_side_of_end d.side))

-- the lines that a net joins, that of its pin a first
abbrev pub a_line : PlainLevel → PlainPlan → Orders → Name → Line
a_line l p o (of_link k) = tail_line l p o k
a_line l p o (of_dock n) = dock_lane (dock_of l p o n)
a_line l p o (of_loop e side) = loop_line e (dock_of l p o (end_at e true)) side

abbrev pub b_line : PlainLevel → PlainPlan → Orders → Name → Line
b_line l p o (of_link k) = head_line l p o k
b_line l p o (of_dock n) = anchor_line (dock_of l p o n)
b_line l p o (of_loop e side) = loop_line e (dock_of l p o (end_at e false)) side

-- whether the pins lie on the gap's left border: for a link the tail's, else both or none
abbrev pub a_on_left : PlainLevel → PlainPlan → Orders → Name → Bool
a_on_left l p o (of_link k) = true
a_on_left l p o (of_dock n) = is_side (dock_of l p o n).side East
a_on_left l p o (of_loop e side) = is_side side East

abbrev pub b_on_left : PlainLevel → PlainPlan → Orders → Name → Bool
b_on_left l p o (of_link k) = false
b_on_left l p o (of_dock n) = is_side (dock_of l p o n).side East
b_on_left l p o (of_loop e side) = is_side side East

-- a pin at a line, moved up by the shift of the level
abbrev pub pin_at : PlainLevel → PlainPlan → Orders → ℤ → Bool → Line → Pin
pin_at l p o shift on_left m = record { on_left = on_left; height = height_of l p o m -ℤ shift }

abbrev pub net_of : PlainLevel → PlainPlan → Orders → ℤ → Name → Net
net_of l p o shift n =
    record {
      a = pin_at l p o shift (a_on_left l p o n) (a_line l p o n);
      b = pin_at l p o shift (b_on_left l p o n) (b_line l p o n);
    }

-- the nets of a gap, in the order of all nets
abbrev pub names_in : PlainLevel → PlainPlan → Orders → ℕ → List Name
names_in l p o g = filter (λ n. gap_of l p o n == g) (all_names l p o)

abbrev pub nets_in : PlainLevel → PlainPlan → Orders → ℤ → ℕ → List Net
nets_in l p o shift g = map (net_of l p o shift) (names_in l p o g)

abbrev pub place_of_name : List Name → Name → ℕ
place_of_name [] n = 0
place_of_name (m ∷ ms) n = cond (name_eq m n) 0 (1 + place_of_name ms n)

-- the greatest width of the outlines of a layer, 0 without children
abbrev pub widest : PlainLevel → PlainPlan → Orders → ℕ → List ℕ → ℤ
widest l p o r [] = pos 0
widest l p o r (c ∷ cs) = cond (layer_of_child p c == r) (int_max (outline l p o c).width (widest l p o r cs)) (widest l p o r cs)

abbrev pub column_width : PlainLevel → PlainPlan → Orders → ℕ → ℤ
column_width l p o r = widest l p o r (range_with_len 0 (length l.children))

-- the room of the slots of a gap: at the left or right end of the level, and between two layers
abbrev pub outer_width : PlainLevel → ℕ → ℤ
outer_width l count = cond (count == 0) (pos 0) (l.spacing.edge_node_layers +ℤ (pos (count - 1) *ℤ l.spacing.edge_edge_layers))

abbrev pub inner_width : PlainLevel → ℕ → ℤ
inner_width l count =
    cond (count == 0) l.spacing.node_layers
    (int_max l.spacing.node_layers
    (l.spacing.edge_node_layers +ℤ l.spacing.edge_node_layers +ℤ (pos (count - 1) *ℤ l.spacing.edge_edge_layers)))

-- the width of a gap with this many slots, and where its slots begin, from its left border
abbrev pub gap_width : PlainLevel → PlainPlan → ℕ → ℕ → ℤ
gap_width l p g count = cond ((g == 0) || (g == p.layers)) (outer_width l count) (inner_width l count)

abbrev pub first_slot : PlainLevel → ℕ → ℤ
first_slot l g = cond (g == 0) (pos 0) l.spacing.edge_node_layers

-- the left border of a gap, from the widths of the gaps and columns left of it
unfoldable pub gap_left : PlainLevel → PlainPlan → Orders → (ℕ → ℕ) → ℕ → ℤ
gap_left l p o counts zero = pos 0
gap_left l p o counts (suc g) = gap_left l p o counts g +ℤ gap_width l p g (counts g) +ℤ column_width l p o g
