-- The children of a drawing keep their distances.
use Rattle.std.specs.Prelude.{◌≡◌, ◌≢◌, ◌⊎◌, ℕ, ◌<◌, List, [], ◌∷◌, length, slice_index_or}
use Rattle.std.specs.List.{range_with_len}
use Rattle.drawing_types.specs.declared.shape.Point.{Point}
use Rattle.drawing_types.specs.declared.shape.Rect.{Rect}
use Rattle.drawing_types.specs.Shapes.{hull, rect_at, moved_by}
use Rattle.drawing_types.specs.Clearance.{IsLeftBy, IsAboveBy}
use Rattle.port_order.specs.Child.{port_at}
use Rattle.level_model.specs.Level.{PlainLevel, PlainPlan, Orders, child_at}
use Rattle.level_model.specs.FromPlan.{LevelDrawing, point_or, IsPlaced, IsDrawnFrom}
use Rattle.level_model.specs.Drawing.{outline_at}
use Rattle.level_model.specs.Ready.{IsReady}

-- the box of a child in the drawing, and a port's place in it
abbrev pub drawn_box : PlainLevel → LevelDrawing → ℕ → Rect
drawn_box l d c = rect_at (point_or d.boxes c) (child_at l c).size

abbrev pub drawn_port : LevelDrawing → ℕ → ℕ → Point
drawn_port d c k = point_or (slice_index_or d.ports c []) k

-- the outline of a child in the drawing: the least rectangle that holds its box and these ports, or all of them
abbrev pub drawn_outline_from : PlainLevel → LevelDrawing → ℕ → List ℕ → Rect
drawn_outline_from l d c [] = drawn_box l d c
drawn_outline_from l d c (k ∷ ks) =
    hull (drawn_outline_from l d c ks) (rect_at (moved_by (drawn_box l d c) (drawn_port d c k)) (port_at (child_at l c) k).size)

abbrev pub drawn_outline : PlainLevel → LevelDrawing → ℕ → Rect
drawn_outline l d c = drawn_outline_from l d c (range_with_len 0 (length (child_at l c).ports))

-- it is the outline that the plan places
abbrev pub OutlinesAreDrawn : Type 0
OutlinesAreDrawn =
    (l : PlainLevel) (p : PlainPlan) (o : Orders) (d : LevelDrawing) (c : ℕ) → IsPlaced l p o d c
    → drawn_outline l d c ≡ outline_at l p o d c

-- Two children of one layer stand one above the other with the room of nodes; a child of an earlier layer stands before with
-- the room of layers.
pub record ChildrenApart (l : PlainLevel) (d : LevelDrawing) (layers : List ℕ) (b c : ℕ) : Type 0 where
  pub same_layer : slice_index_or layers b 0 ≡ slice_index_or layers c 0
      → IsAboveBy l.spacing.node_node (drawn_outline l d b) (drawn_outline l d c)
      ⊎ IsAboveBy l.spacing.node_node (drawn_outline l d c) (drawn_outline l d b)
  pub earlier_layer : slice_index_or layers b 0 < slice_index_or layers c 0
      → IsLeftBy l.spacing.node_layers (drawn_outline l d b) (drawn_outline l d c)

abbrev pub ChildrenKeepApart : Type 0
ChildrenKeepApart =
    (l : PlainLevel) (p : PlainPlan) (o : Orders) (d : LevelDrawing) (layers : List ℕ) → IsReady l p o layers → IsDrawnFrom l p o d
    → (b c : ℕ) → b < length l.children → c < length l.children → b ≢ c → ChildrenApart l d layers b c
