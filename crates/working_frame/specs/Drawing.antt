-- The drawing of a document at one level comes from a drawing of that level in the frame of its direction: it is rotated back
-- and moved.
use Rattle.std.specs.Prelude.{◌≡◌, ℕ, ◌<◌, map, ◌+ℤ◌, length}
use Rattle.drawing_types.specs.declared.shape.Point.{Point}
use Rattle.elk_doc.specs.declared.document.Direction.{Direction}
use Rattle.drawing_types.specs.declared.section.Section.{Section}
use Rattle.elk_doc.specs.declared.drawing.Certificate.{Certificate}
use Rattle.elk_doc.specs.declared.drawing.Placed.{Placed}
use Rattle.elk_doc.specs.Document.{Document, port_at}
use Rattle.elk_doc.specs.Level.{children, edges_of}
use Rattle.elk_doc.specs.Shapes.{rotated}
use Rattle.drawing_types.specs.Shapes.{rect_at}
use Rattle.elk_doc.specs.Drawing.{box_of, port_place, section_of}
use Rattle.drawing_laws.specs.Rotating.{rotated_point}
use Rattle.level_model.specs.FromPlan.{LevelDrawing, point_or, section_at}
use Rattle.level_model.specs.Apart.{drawn_port}
use Rattle.working_frame.specs.Rotated.{child_number, edge_number, ports_of, port_number, rotated_size, rotated_place, box_size}

-- a point that is moved
abbrev pub plus : Point → Point → Point
plus by q = record { x = by.x +ℤ q.x; y = by.y +ℤ q.y }

-- the box of a node in the frame, and its ports there within it
pub record IsRotatedChild (d : Document) (p : Placed) (way : Direction) (v : LevelDrawing) (by : Point) (i c : ℕ) : Type 0 where
  pub box : rotated way (box_of p c) ≡ rect_at (plus by (point_or v.boxes i)) (rotated_size way (box_size p c))
  pub ports : (j : ℕ) → j < length (ports_of d c)
      → rotated_place way (box_size p c) (port_at d (port_number d c j)).size (port_place p (port_number d c j)) ≡ drawn_port v i j

-- the route of an edge in the frame
pub record IsRotatedSection (way : Direction) (by : Point) (written drawn : Section) : Type 0 where
  pub start : rotated_point way written.start ≡ plus by drawn.start
  pub bends : map (rotated_point way) written.bends ≡ map (plus by) drawn.bends
  pub end : rotated_point way written.end ≡ plus by drawn.end

-- At the level of n the boxes, ports and sections of a document's drawing, in the frame of the level's direction, are those of
-- a drawing of the level that is moved.
pub record IsRotatedDrawing (d : Document) (p : Placed) (n : ℕ) (way : Direction) (v : LevelDrawing) (by : Point) : Type 0 where
  pub children : (i : ℕ) → i < length (children d n) → IsRotatedChild d p way v by i (child_number d n i)
  pub sections : (i : ℕ) → i < length (edges_of d n) → IsRotatedSection way by (section_of p (edge_number d n i)) (section_at v i)

-- The certificate of the level of n is one of the level, with the document's numbers of the edges that are reversed.
pub record IsNumberedAs (d : Document) (n : ℕ) (written made : Certificate) : Type 0 where
  pub layers : written.layers ≡ made.layers
  pub reversed : written.reversed ≡ map (edge_number d n) made.reversed
  pub flow : written.flow ≡ made.flow
  pub span : written.span ≡ made.span
