-- The parts of a drawing as the laws of pieces see them.
use Rattle.std.specs.Prelude.{ℕ, ◌+◌, ◌==◌, Bool, true, false, not, ◌&&◌, ◌||◌, List, ◌+ℤ◌, ◌-ℤ◌, length, slice_index_or, nat_lt}
use Rattle.std.specs.List.{filter, list_any, range_with_len}
use Rattle.drawing_types.specs.declared.shape.Rect.{Rect}
use Rattle.drawing_types.specs.declared.shape.Dock.{Dock}
use Rattle.drawing_types.specs.Shapes.{rect_at}
use Rattle.self_loops.specs.Loops.{is_upright}
use Rattle.elk_layers.specs.Layered.{unit_at, link_at, layer_of}
use Rattle.elk_layers.specs.Lines.{top_of}
use Rattle.route_lines.specs.Points.{gap_in}
use Rattle.level_model.specs.Stage.{Stage, Line, anchor_line, loop_lane}
use Rattle.level_model.specs.Level.{PlainLevel, PlainPlan, Orders, end_at, child_at, dock_of, outline, first_or, is_loop}
use Rattle.level_model.specs.Lanes.{line_eq, loop_sides}
use Rattle.level_model.specs.Nets.{Name, all_names, names_in, of_link, a_line, b_line, edge_of, unit_of, height_of}
use Rattle.level_model.specs.FromPlan.{LevelDrawing, anchor, box_place}

-- the edge of a lane of a long edge: that of the link that enters it
abbrev pub lane_edge : PlainPlan → ℕ → ℕ
lane_edge p u =
    (link_at p.layered.links
    (first_or (filter (λ k. (link_at p.layered.links k).head == u) (range_with_len 0 (length p.layered.links))) 0)).edge

-- the line of an anchor on the east or west side
abbrev pub is_anchor_line : Dock → Line → Bool
is_anchor_line d m = not (is_upright d.side) && line_eq (anchor_line d) m

-- An edge runs on the lines that its nets join, on those of its anchors on the east and west sides, and as a self-loop on its lanes.
abbrev pub is_in_use : PlainLevel → PlainPlan → Orders → ℕ → Line → Bool
is_in_use l p o e m =
    list_any (λ n. (edge_of p n == e) && (line_eq (a_line l p o n) m || line_eq (b_line l p o n) m)) (all_names l p o)
    || (nat_lt e (length l.edges)
    && (is_anchor_line (dock_of l p o (end_at e true)) m || is_anchor_line (dock_of l p o (end_at e false)) m))
    || (nat_lt e (length l.edges) && is_loop l e && list_any (λ side. line_eq (loop_lane e side) m) (loop_sides l p o e))

abbrev pub name_at : List Name → ℕ → Name
name_at names k = slice_index_or names k (of_link 0)

abbrev pub outline_at : PlainLevel → PlainPlan → Orders → LevelDrawing → ℕ → Rect
outline_at l p o d c =
    record {
      x = (box_place l p o d c).x +ℤ (outline l p o c).x;
      y = (box_place l p o d c).y +ℤ (outline l p o c).y;
      width = (outline l p o c).width;
      height = (outline l p o c).height;
    }

abbrev pub stage : PlainLevel → PlainPlan → Orders → LevelDrawing → Stage
stage l p o d =
    record {
      layers = p.layers;
      units = length p.layered.units;
      children = length l.children;
      edges = length l.edges;
      gaps = d.gaps;
      col_left = λ r. (gap_in d.gaps r).right;
      col_right = λ r. (gap_in d.gaps (r + 1)).left;
      layer = layer_of p.layered;
      top = λ u. top_of p.tops u -ℤ d.top;
      bottom = λ u. (top_of p.tops u +ℤ (unit_at p.layered.units u).height) -ℤ d.top;
      unit_of = unit_of p;
      box = λ c. rect_at (box_place l p o d c) (child_at l c).size;
      outline = outline_at l p o d;
      dock = λ e t. dock_of l p o (end_at e t);
      anchor = λ e t. anchor l p o d (end_at e t);
      lane_edge = lane_edge p;
      net_edge = λ g k. edge_of p (name_at (names_in l p o g) k);
      height = λ m. height_of l p o m -ℤ d.top;
      in_use = is_in_use l p o;
    }
