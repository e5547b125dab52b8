-- Outlines by the docks of a child's spots.
use Rattle.std.specs.Prelude.{ℕ, List, [], ◌∷◌, pos, slice_index_or}
use Rattle.drawing_types.specs.declared.shape.Rect.{Rect}
use Rattle.drawing_types.specs.declared.shape.Side.TheVariants.{East}
use Rattle.drawing_types.specs.declared.shape.Dock.{Dock}
use Rattle.drawing_types.specs.Shapes.{hull, rect_at}
use Rattle.port_order.specs.declared.children.Child.{Child}
use Rattle.port_order.specs.Child.{port_at}
use Rattle.port_order.specs.Places.{place_of_port}

abbrev pub dock_in : List Dock → ℕ → Dock
dock_in docks i = slice_index_or docks i (record { node = 0; side = East; offset = pos 0 })

-- the least rectangle that holds a child's box and these of its ports, whose docks are given by number
abbrev pub outline_by : Child → List Dock → List ℕ → Rect
outline_by c docks [] = rect_at (record { x = pos 0; y = pos 0 }) c.size
outline_by c docks (k ∷ ks) =
    hull (outline_by c docks ks) (rect_at (place_of_port c (dock_in docks k).side k (dock_in docks k).offset) (port_at c k).size)
