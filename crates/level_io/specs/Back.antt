-- The parts of a level's drawing, rotated back from the frame of its direction into the document.
use Rattle.std.specs.Prelude.{map, ◌+ℤ◌, ◌-ℤ◌}
use Rattle.drawing_types.specs.declared.shape.Point.{Point}
use Rattle.drawing_types.specs.declared.shape.Size.{Size}
use Rattle.drawing_types.specs.declared.shape.Rect.{Rect}
use Rattle.elk_doc.specs.declared.document.Direction.{Direction}
use Rattle.elk_doc.specs.declared.document.Direction.TheVariants.{Right, Left, Down, Up}
use Rattle.drawing_types.specs.declared.section.Section.{Section}
use Rattle.drawing_types.specs.Shapes.{rect_at}
use Rattle.drawing_laws.specs.Frames.{point_back, rect_back}
use Rattle.working_frame.specs.Rotated.{rotated_size}
use Rattle.working_frame.specs.Drawing.{plus}

-- the size of a rectangle
abbrev pub size_of : Rect → Size
size_of r = record { width = r.width; height = r.height }

-- a box that keeps its size and whose corner in the frame is put here
abbrev pub box_back : Direction → Point → Rect → Rect
box_back way at r = rect_back way (rect_at at (rotated_size way (size_of r)))

-- the place in its box of a port of this size that has this place in the rotated box
abbrev pub place_back : Direction → Rect → Size → Point → Point
place_back Right outer s q = q
place_back Left outer s q = record { x = outer.width -ℤ (q.x +ℤ s.width); y = q.y }
place_back Down outer s q = record { x = q.y; y = q.x }
place_back Up outer s q = record { x = q.y; y = outer.height -ℤ (q.x +ℤ s.height) }

-- a point of a route that is moved in the frame
abbrev pub moved_back : Direction → Point → Point → Point
moved_back way by q = point_back way (plus by q)

abbrev pub section_back : Direction → Point → Section → Section
section_back way by s =
    record { start = moved_back way by s.start; bends = map (moved_back way by) s.bends; end = moved_back way by s.end }
