-- The faults of a level's content: which comes first.
use Rattle.std.specs.Prelude.{◌≡◌, ◌⊎◌, ℕ, ◌<◌, length, slice_index_or}
use Rattle.drawing_types.specs.declared.shape.Rect.{Rect}
use Rattle.elk_doc.specs.declared.document.Padding.{Padding}
use Rattle.elk_doc.specs.declared.document.LevelOptions.{LevelOptions}
use Rattle.elk_doc.specs.declared.drawing.Placed.{Placed}
use Rattle.drawing_types.specs.declared.section.Section.{Section}
use Rattle.elk_doc.specs.Document.{Document}
use Rattle.drawing_types.specs.Shapes.{origin}
use Rattle.elk_doc.specs.Drawing.{box_of, points_of, section_of}
use Rattle.elk_doc.specs.Level.{IsChild, IsEdge}
use Rattle.elk_doc.specs.Places.{outline_of}
use Rattle.drawing_types.specs.Shapes.{point_rect}
use Rattle.elk_doc.specs.Inside.{Inside, IsWithinPadding}
use Rattle.layout_check.specs.declared.fault.Fault.{Fault}
use Rattle.layout_check.specs.declared.fault.Place.TheVariants.{Node, Edge}
use Rattle.layout_check.specs.Faults.{lone_fault, FailsFirst}

-- all points of a route lie within a padding
abbrev pub PointsWithin : Section → Rect → Padding → Type 0
PointsWithin s outer room =
    (i : ℕ) → i < length (points_of s) → IsWithinPadding outer room (point_rect (slice_index_or (points_of s) i origin))

-- what each child and each edge of the level of n owes
abbrev pub OutlineHolds : Document → Placed → ℕ → LevelOptions → ℕ → Type 0
OutlineHolds d p n o a = IsChild d n a → IsWithinPadding (box_of p n) o.padding (outline_of d p a)

abbrev pub PointsHold : Document → Placed → ℕ → LevelOptions → ℕ → Type 0
PointsHold d p n o e = IsEdge d n e → PointsWithin (section_of p e) (box_of p n) o.padding

-- a fault names the first child whose outline is not inside, and else the first edge whose route is not
abbrev pub FirstInside : Document → Placed → ℕ → LevelOptions → Fault → Type 0
FirstInside d p n o x =
    ((a : ℕ) × (x ≡ lone_fault (Node a)) × FailsFirst (OutlineHolds d p n o) a)
    ⊎ (((a : ℕ) → OutlineHolds d p n o a) × ((e : ℕ) × (x ≡ lone_fault (Edge e)) × FailsFirst (PointsHold d p n o) e))

-- a fault that is named breaks Inside
abbrev pub FaultBreaksInside : Type 0
FaultBreaksInside =
    (d : Document) (p : Placed) (n : ℕ) (o : LevelOptions) (x : Fault) → FirstInside d p n o x → Inside d p n o → ⊥
