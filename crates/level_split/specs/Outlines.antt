-- The outlines of children in the frame, by the places of their ports.
use Rattle.std.specs.Prelude.{◌≡◌, ℕ, ◌<◌, false, List, [], ◌∷◌, length, None, slice_index_or}
use Rattle.std.specs.List.{range_with_len}
use Rattle.drawing_types.specs.declared.shape.Point.{Point}
use Rattle.drawing_types.specs.declared.shape.Rect.{Rect}
use Rattle.drawing_types.specs.declared.shape.Size.{Size}
use Rattle.elk_doc.specs.declared.document.Direction.{Direction}
use Rattle.elk_doc.specs.declared.document.Direction.TheVariants.{Right}
use Rattle.elk_doc.specs.declared.document.PortRule.TheVariants.{Free}
use Rattle.drawing_types.specs.Shapes.{no_size, origin}
use Rattle.elk_doc.specs.Drawing.{no_rect}
use Rattle.drawing_types.specs.Shapes.{hull, rect_at}
use Rattle.port_order.specs.declared.children.Child.{Child}
use Rattle.port_order.specs.Child.{port_at}
use Rattle.level_model.specs.FromPlan.{point_or}
use Rattle.dock_table.specs.Narrow.{IsNearRect}
use Rattle.working_frame.specs.Rotated.{rotated_size}

-- the box of a port at its place
abbrev pub port_rect : Child → List Point → ℕ → Rect
port_rect c ports k = rect_at (point_or ports k) (port_at c k).size

-- the outline of a child from the corner of its box: the least rectangle that holds its box and these ports, or all of them
abbrev pub outline_from : Child → List Point → List ℕ → Rect
outline_from c ports [] = rect_at origin c.size
outline_from c ports (k ∷ ks) = hull (outline_from c ports ks) (port_rect c ports k)

abbrev pub outline_of : Child → List Point → Rect
outline_of c ports = outline_from c ports (range_with_len 0 (length c.ports))

-- the size in the document of an outline in the frame
abbrev pub outline_size : Direction → Rect → Size
outline_size way r = rotated_size way (record { width = r.width; height = r.height })

-- a child with places for its ports, near enough to be joined
pub record IsPorted (c : Child) (ports : List Point) : Type 0 where
  pub as_many : length ports ≡ length c.ports
  pub box_near : IsNearRect (rect_at origin c.size)
  pub ports_near : (k : ℕ) → k < length c.ports → IsNearRect (port_rect c ports k)

abbrev pub child_in : List Child → ℕ → Child
child_in children i =
    slice_index_or children i (record { size = no_size; compound = false; rule = Free; direction = Right; position = None; ports = [] })

abbrev pub ports_in : List (List Point) → ℕ → List Point
ports_in ports i = slice_index_or ports i []

abbrev pub rect_in : List Rect → ℕ → Rect
rect_in rects i = slice_index_or rects i no_rect

pub record ArePorted (children : List Child) (ports : List (List Point)) : Type 0 where
  pub as_many : length ports ≡ length children
  pub each : (i : ℕ) → i < length children → IsPorted (child_in children i) (ports_in ports i)

-- the outlines of the first n children, which are near
pub record AreOutlines (children : List Child) (ports : List (List Point)) (n : ℕ) (outlines : List Rect) : Type 0 where
  pub as_many : length outlines ≡ n
  pub each : (i : ℕ) → i < n → rect_in outlines i ≡ outline_of (child_in children i) (ports_in ports i)
  pub near : (i : ℕ) → i < n → IsNearRect (rect_in outlines i)
