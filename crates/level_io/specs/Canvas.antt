-- The drawing that a canvas holds.
use Rattle.std.specs.Prelude.{map, None}
use Rattle.drawing_types.specs.declared.shape.Rect.{Rect}
use Rattle.elk_doc.specs.declared.document.Node.{Node}
use Rattle.elk_doc.specs.declared.drawing.Placed.{Placed}
use Rattle.elk_doc.specs.Document.{Document}
use Rattle.drawing_types.specs.Shapes.{origin}
use Rattle.elk_doc.specs.Drawing.{no_section}
use Rattle.elk_doc.specs.Fits.{HasCounts}
use Rattle.drawing_types.specs.Shapes.{rect_at}
use Rattle.level_io.specs.declared.canvas.Canvas.{Canvas}

abbrev pub drawing_of : Canvas → Placed
drawing_of c = record { boxes = c.boxes.items; ports = c.ports.items; sections = c.sections.items; levels = c.levels.items }

-- a drawing has boxes and levels for all nodes, and places for all ports and edges
abbrev pub IsDrawingOf : Document → Placed → Type 0
IsDrawingOf d p = HasCounts d p

-- the box of a node that is not placed
abbrev pub blank_box : Node → Rect
blank_box n = rect_at origin n.size

-- the drawing in which nothing is placed
abbrev pub blank_drawing : Document → Placed
blank_drawing d =
    record {
      boxes = map blank_box d.nodes;
      ports = map (λ _. origin) d.ports;
      sections = map (λ _. no_section) d.edges;
      levels = map (λ _. None) d.nodes;
    }
