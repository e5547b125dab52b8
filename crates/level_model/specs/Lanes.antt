-- The lanes at a child, and their heights below the top of its unit.
use Rattle.std.specs.Prelude.{ℕ, ◌+◌, ◌-◌, ◌==◌, cond, Bool, true, false, not, ◌&&◌, ◌||◌, List, [], ◌∷◌, ◌++◌, map, ℤ, pos, ◌+ℤ◌, ◌-ℤ◌}
use Rattle.std.specs.Prelude.{◌*ℤ◌, length, int_lt}
use Rattle.std.specs.List.{filter, list_any, range_with_len}
use Rattle.std.specs.Ordering.{int_eq}
use Rattle.drawing_types.specs.declared.shape.Side.{Side}
use Rattle.drawing_types.specs.declared.shape.Side.TheVariants.{North, East, South, West}
use Rattle.drawing_types.specs.declared.shape.Dock.{Dock}
use Rattle.elk_doc.specs.declared.document.Spacing.{Spacing}
use Rattle.drawing_types.specs.Shapes.{is_side}
use Rattle.self_loops.specs.Loops.{sides_of_lanes}
use Rattle.level_model.specs.Stage.{Line, anchor_line, dock_lane, loop_lane, long_lane}
use Rattle.level_model.specs.Level.{PlainLevel, PlainPlan, Orders, end_at, child_at, edge_at, is_loop, spots, dock_of, dock_of_spot}
use Rattle.level_model.specs.Level.{outline}

abbrev pub dock_eq : Dock → Dock → Bool
dock_eq d k = (d.node == k.node) && (is_side d.side k.side && int_eq d.offset k.offset)

-- each dock once, at its first place
abbrev pub once : List Dock → List Dock
once [] = []
once (d ∷ ds) = d ∷ filter (λ k. not (dock_eq d k)) (once ds)

-- The spot asks for a lane at its dock: on the north and south sides where a link enters or leaves, on the east side where
-- one enters, on the west side where one leaves.
abbrev pub asks_lane : Side → Bool → Bool → Bool
asks_lane North leaves enters = leaves || enters
asks_lane East leaves enters = enters
asks_lane South leaves enters = leaves || enters
asks_lane West leaves enters = leaves

-- The docks of a child that have a lane, in document order of their first spot.
abbrev pub has_lane : PlainLevel → PlainPlan → Orders → ℕ → Dock → Bool
has_lane l p o c d =
    list_any (λ s. dock_eq (dock_of_spot l o c s) d && asks_lane d.side s.leaves s.enters) (spots l p c)

abbrev pub docks_with_lane : PlainLevel → PlainPlan → Orders → ℕ → List Dock
docks_with_lane l p o c = filter (has_lane l p o c) (once (map (dock_of_spot l o c) (spots l p c)))

-- the side of a dock's lane at a box of this height: its own on north and south, else north in the upper half of the box and
-- south in the lower
abbrev pub side_by : ℤ → Side → ℤ → Side
side_by height North offset = North
side_by height East offset = cond (int_lt height (offset +ℤ offset)) South North
side_by height South offset = South
side_by height West offset = cond (int_lt height (offset +ℤ offset)) South North

abbrev pub lane_side : PlainLevel → Dock → Side
lane_side l d = side_by (child_at l d.node).size.height d.side d.offset

abbrev pub loops_of : PlainLevel → ℕ → List ℕ
loops_of l c = filter (λ e. is_loop l e && ((edge_at l e).source.child == c)) (range_with_len 0 (length l.edges))

abbrev pub has_one_dock : PlainLevel → PlainPlan → Orders → ℕ → Bool
has_one_dock l p o e = dock_eq (dock_of l p o (end_at e true)) (dock_of l p o (end_at e false))

abbrev pub loop_sides : PlainLevel → PlainPlan → Orders → ℕ → List Side
loop_sides l p o e =
    sides_of_lanes (dock_of l p o (end_at e true)).side (dock_of l p o (end_at e false)).side (has_one_dock l p o e)

-- The lanes on one side of a child, from the outline outwards: those of self-loops by edge, then those of docks.
abbrev pub lanes : PlainLevel → PlainPlan → Orders → ℕ → Side → List Line
lanes l p o c side =
    map (λ e. loop_lane e side) (filter (λ e. list_any (is_side side) (loop_sides l p o e)) (loops_of l c))
    ++ map (λ d. dock_lane d) (filter (λ d. is_side (lane_side l d) side) (docks_with_lane l p o c))

-- the room that this many lanes take beside an outline
abbrev pub room : Spacing → ℕ → ℤ
room s n = cond (n == 0) (pos 0) (s.edge_node +ℤ (pos (n - 1) *ℤ s.edge_edge))

abbrev pub lanes_room : PlainLevel → ℕ → ℤ
lanes_room l n = room l.spacing n

-- the height of the i-th lane from an outline of this height, below the unit's top, where so many lanes are in the north
abbrev pub height_by : Spacing → ℕ → ℤ → Side → ℕ → ℤ
height_by s north height North i = room s north -ℤ room s (i + 1)
height_by s north height _ i = room s north +ℤ height +ℤ room s (i + 1)

abbrev pub line_eq : Line → Line → Bool
line_eq (anchor_line d) (anchor_line k) = dock_eq d k
line_eq (dock_lane d) (dock_lane k) = dock_eq d k
line_eq (loop_lane e s) (loop_lane f t) = (e == f) && is_side s t
line_eq (long_lane u) (long_lane v) = u == v
line_eq _ _ = false

abbrev pub place_of_line : List Line → Line → ℕ
place_of_line [] m = 0
place_of_line (k ∷ ks) m = cond (line_eq k m) 0 (1 + place_of_line ks m)

-- the top of the outline below the top of its unit, and the unit's height
abbrev pub body_top : PlainLevel → PlainPlan → Orders → ℕ → ℤ
body_top l p o c = lanes_room l (length (lanes l p o c North))

abbrev pub unit_height : PlainLevel → PlainPlan → Orders → ℕ → ℤ
unit_height l p o c = body_top l p o c +ℤ (outline l p o c).height +ℤ lanes_room l (length (lanes l p o c South))

-- the height of the i-th lane from the outline, below the unit's top
abbrev pub lane_height : PlainLevel → PlainPlan → Orders → ℕ → Side → ℕ → ℤ
lane_height l p o c side i = height_by l.spacing (length (lanes l p o c North)) (outline l p o c).height side i

-- the height of a line of a child below its unit's top
abbrev pub loop_lane_height : PlainLevel → PlainPlan → Orders → ℕ → Side → Line → ℤ
loop_lane_height l p o c side m = lane_height l p o c side (place_of_line (lanes l p o c side) m)
