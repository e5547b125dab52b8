-- A level of boxes in the drawing of a document: its outlines stand in the squarest rows.
use Rattle.std.specs.Prelude.{◌≡◌, ℕ, ◌<◌, List, [], map, length, Some, slice_index_or}
use Rattle.drawing_types.specs.declared.shape.Point.{Point}
use Rattle.drawing_types.specs.declared.shape.Rect.{Rect}
use Rattle.drawing_types.specs.declared.shape.Size.{Size}
use Rattle.elk_doc.specs.declared.document.LevelOptions.{LevelOptions}
use Rattle.elk_doc.specs.declared.document.Padding.{Padding}
use Rattle.elk_doc.specs.declared.drawing.Certificate.{Certificate}
use Rattle.elk_doc.specs.declared.drawing.Placed.{Placed}
use Rattle.elk_doc.specs.Document.{Document, port_at}
use Rattle.elk_doc.specs.Level.{children}
use Rattle.elk_doc.specs.Drawing.{certificate_of, port_place}
use Rattle.elk_doc.specs.Places.{outline_of}
use Rattle.level_model.specs.declared.level.LevelIn.{LevelIn}
use Rattle.level_model.specs.Conditions.{plain_level}
use Rattle.level_model.specs.FromPlan.{point_or}
use Rattle.level_model.specs.Level.{PlainLevel}
use Rattle.level_draw.specs.declared.drawing.LevelOut.{LevelOut}
use Rattle.level_layout.specs.Layout.{IsLaidOut}
use Rattle.box_pack.specs.declared.squarest.Squarest.{Squarest}
use Rattle.box_pack.specs.Boxes.{point_at}
use Rattle.box_pack.specs.Squareness.{IsSquarest}
use Rattle.working_frame.specs.Rotated.{box_size, child_number, level_child, port_number, ports_of, rotated_place, rotated_size}
use Rattle.working_frame.specs.Drawing.{plus}
use Rattle.level_io.specs.Sizes.{IsSizeRound}

-- the children of n, with their sizes in the drawing, as a level without edges
abbrev pub edgeless : Document → Placed → ℕ → LevelOptions → PlainLevel
edgeless d p n o =
    record {
      children = map (level_child d p o.direction) (children d n);
      edges = [];
      spacing = o.spacing;
      choices = o.choices;
    }

-- the size of a rectangle, and the sizes of the children's outlines, in document order
abbrev pub size_of : Rect → Size
size_of r = record { width = r.width; height = r.height }

abbrev pub outline_sizes : Document → Placed → ℕ → List Size
outline_sizes d p n = map (λ c. size_of (outline_of d p c)) (children d n)

-- where a rectangle stands, and where content begins that has this padding
abbrev pub corner_of : Rect → Point
corner_of r = record { x = r.x; y = r.y }

abbrev pub inner_corner : Padding → Point
inner_corner m = record { x = m.left; y = m.top }

-- the certificate of a level of boxes: every child lies in layer 0, and nothing is reversed or flows
abbrev pub lowest : ℕ → ℕ
lowest child = 0

abbrev pub boxes_certificate : Document → ℕ → Certificate
boxes_certificate d n = record { layers = map lowest (children d n); reversed = []; flow = []; span = 0; parts = [] }

-- The level of n, which has these options, is one of boxes. Its ports stand at each child as in a layout of the children without
-- edges, rotated back. The outlines of the children stand in the squarest rows of their sizes, with the gap between nodes, and the
-- content begins at the padding. The node has the size that this content and its pinned ports need.
pub record IsBoxedPlan (d : Document) (p : Placed) (n : ℕ) (o : LevelOptions) : Type 0 where
  pub level : LevelIn
  pub out : LevelOut
  pub is : plain_level level ≡ edgeless d p n o
  pub fixed : level.fixed ≡ o.fixed
  pub placing : level.placing ≡ o.placing
  pub laid_out : IsLaidOut level out
  pub ports : (i j : ℕ) → i < length (children d n) → j < length (ports_of d (child_number d n i))
      → rotated_place o.direction (box_size p (child_number d n i)) (port_at d (port_number d (child_number d n i) j)).size
      (port_place p (port_number d (child_number d n i) j))
      ≡ point_or (slice_index_or out.ports i []) j
  pub squarest : Squarest
  pub rows : IsSquarest (outline_sizes d p n) o.spacing.node_node squarest
  pub outlines : (i : ℕ) → i < length (children d n)
      → corner_of (outline_of d p (child_number d n i)) ≡ plus (inner_corner o.padding) (point_at squarest.rows.at i)
  pub certificate : certificate_of p n ≡ Some (boxes_certificate d n)
  pub size : IsSizeRound d n o (rotated_size o.direction squarest.rows.extent) (box_size p n)
