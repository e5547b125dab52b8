-- What the drawing of a level writes into the drawing of a document.
use Rattle.std.specs.Prelude.{◌≡◌, ◌≢◌, ℕ, ◌<◌, List, [], map, length, ℤ, Some, Vec, slice_index_or}
use Rattle.std.specs.declared.alloc.Global.{Global}
use Rattle.std.specs.List.{All}
use Rattle.drawing_types.specs.declared.shape.Point.{Point}
use Rattle.drawing_types.specs.declared.shape.Rect.{Rect}
use Rattle.elk_doc.specs.declared.document.Direction.{Direction}
use Rattle.elk_doc.specs.declared.document.LevelOptions.{LevelOptions}
use Rattle.drawing_types.specs.declared.section.Section.{Section}
use Rattle.elk_doc.specs.declared.drawing.Certificate.{Certificate}
use Rattle.elk_doc.specs.declared.drawing.Placed.{Placed}
use Rattle.elk_doc.specs.Document.{Document, port_at, node_of_port}
use Rattle.drawing_types.specs.Shapes.{origin}
use Rattle.elk_doc.specs.Level.{children, edges_of, IsChild, IsEdge}
use Rattle.elk_doc.specs.Drawing.{box_of, certificate_of, no_rect, no_section, port_place, section_of}
use Rattle.route_lines.specs.Points.{PlainGap}
use Rattle.level_model.specs.FromPlan.{PlainTrace, point_or}
use Rattle.working_frame.specs.Ranges.{IsFarPoint, IsFarSection}
use Rattle.working_frame.specs.Rotated.{box_size, port_number, ports_of}
use Rattle.working_frame.specs.Drawing.{IsNumberedAs, IsRotatedDrawing, plus}
use Rattle.working_frame.specs.Kept.{AgreeAt}
use Rattle.rotated_levels.specs.Framed.{start_of}
use Rattle.level_io.specs.declared.figure.LevelFigure.{LevelFigure}
use Rattle.level_io.specs.declared.writing.LevelNumbers.{LevelNumbers}
use Rattle.level_io.specs.Canvas.{IsDrawingOf}
use Rattle.level_io.specs.Back.{box_back, place_back, section_back}
use Rattle.level_io.specs.Changed.{number_at}
use Rattle.level_io.specs.Figure.{figure_in}
use Rattle.level_io.specs.Ranges.{IsLongBox, IsLongSize}

-- groups of numbers as lists
abbrev pub rows_in : List (Vec ℕ Global) → List (List ℕ)
rows_in rows = map (λ row. row.items) rows

-- the ports of each node
pub record ArePortsByNode (d : Document) (ports : List (Vec ℕ Global)) : Type 0 where
  pub nodes : length ports ≡ length d.nodes
  pub each : (c : ℕ) → c < length d.nodes → slice_index_or (rows_in ports) c [] ≡ ports_of d c

-- the numbers of what is at the level of n
pub record AreNumbersAt (d : Document) (n : ℕ) (numbers : LevelNumbers) : Type 0 where
  pub children : numbers.children.now ≡ children d n
  pub edges : numbers.edges.now ≡ edges_of d n
  pub ports : ArePortsByNode d numbers.ports.now

-- near places for all ports of these children, by child
pub record ArePortPlaces (d : Document) (children : List ℕ) (places : List (List Point)) : Type 0 where
  pub as_many : length places ≡ length children
  pub each : (i : ℕ) → i < length children → length (slice_index_or places i []) ≡ length (ports_of d (number_at children i))
  pub far : (i : ℕ) → i < length children → All IsFarPoint (slice_index_or places i [])

-- The drawing of the level of n has a place for each child and port and a section for each edge; its numbers and the sizes of
-- the children leave room for moving it; and its certificate turns edges of the level round.
pub record IsWritable (d : Document) (p : Placed) (n : ℕ) (v : LevelFigure) : Type 0 where
  pub extent : IsLongSize v.extent
  pub box_count : length v.boxes ≡ length (children d n)
  pub boxes : All IsFarPoint v.boxes
  pub sizes : (c : ℕ) → IsChild d n c → IsLongBox (box_of p c)
  pub ports : ArePortPlaces d (children d n) v.ports
  pub section_count : length v.sections ≡ length (edges_of d n)
  pub sections : All IsFarSection v.sections
  pub reversed : All (λ e. e < length (edges_of d n)) v.certificate.reversed

-- how a child's box, a port's place and an edge's section are changed, by their places in the level
abbrev pub box_change : Direction → Point → List Point → ℕ → Rect → Rect
box_change way by places i r = box_back way (plus by (point_or places i)) r

abbrev pub port_change : Document → Direction → Rect → List ℕ → List Point → ℕ → Point → Point
port_change d way outer numbers places j q =
    place_back way outer (port_at d (number_at numbers j)).size (point_or places j)

abbrev pub section_or : List Section → ℕ → Section
section_or sections i = slice_index_or sections i no_section

abbrev pub section_change : Direction → Point → List Section → ℕ → Section → Section
section_change way by sections i s = section_back way by (section_or sections i)

-- The ports of the first of these children, up to this many, are put at their places in their boxes. All others stay.
pub record ArePortsWritten (count : ℕ) (d : Document) (way : Direction) (children : List ℕ) (boxes : List Rect)
    (places : List (List Point)) (old now : List Point) : Type 0 where
  pub as_many : length now ≡ length old
  pub at : (i j : ℕ) → i < count → j < length (ports_of d (number_at children i))
      → slice_index_or now (port_number d (number_at children i) j) origin
      ≡ port_change d way (slice_index_or boxes (number_at children i) no_rect) (ports_of d (number_at children i))
      (slice_index_or places i []) j origin
  pub others : (k : ℕ) → ((i : ℕ) → i < count → number_at children i ≢ node_of_port d k)
      → slice_index_or now k origin ≡ slice_index_or old k origin

-- a certificate with other numbers of the edges that are reversed
abbrev pub numbered_by : List ℕ → Certificate → Certificate
numbered_by edges c =
    record { layers = c.layers; reversed = map (number_at edges) c.reversed; flow = c.flow; span = c.span; parts = c.parts }

-- the level of n has the certificate, with the document's numbers of edges
pub record HasCertificate (d : Document) (n : ℕ) (p : Placed) (made : Certificate) : Type 0 where
  pub written : Certificate
  pub is_written : certificate_of p n ≡ Some written
  pub numbered : IsNumberedAs d n written made
  pub parts : written.parts ≡ made.parts

-- What is not at the level of n stays: the sizes of all boxes; the places of all but its children and their ports; the
-- sections of all but its edges; the other certificates. So all other levels are drawn as before.
pub record KeepsElsewhere (d : Document) (n : ℕ) (old now : Placed) : Type 0 where
  pub sizes : (c : ℕ) → box_size now c ≡ box_size old c
  pub boxes : (c : ℕ) → (IsChild d n c → ⊥) → box_of now c ≡ box_of old c
  pub ports : (k : ℕ) → (IsChild d n (node_of_port d k) → ⊥) → port_place now k ≡ port_place old k
  pub sections : (e : ℕ) → (IsEdge d n e → ⊥) → section_of now e ≡ section_of old e
  pub levels : (m : ℕ) → m ≢ n → certificate_of now m ≡ certificate_of old m
  pub agree : (m : ℕ) → m ≢ n → AgreeAt d old now m

-- The level of n is drawn as in its own drawing, which begins at the padding, and has its certificate; all else stays.
pub record IsWritten (d : Document) (n : ℕ) (o : LevelOptions) (v : LevelFigure) (old now : Placed) : Type 0 where
  pub rotated : (gaps : List PlainGap) (traces : List PlainTrace) (left top : ℤ)
      → IsRotatedDrawing d now n o.direction (figure_in v gaps traces left top) (start_of o.direction o.padding v.extent)
  pub certificate : HasCertificate d n now v.certificate
  pub elsewhere : KeepsElsewhere d n old now
  pub complete : IsDrawingOf d now
