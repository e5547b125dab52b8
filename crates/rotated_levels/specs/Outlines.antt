-- The outlines of children, and the distances between them, come back from the frame of a level's direction.
use Rattle.std.specs.Prelude.{◌≡◌, ◌≢◌, ℕ, ◌<◌, ◌+ℤ◌, length, IsFalse}
use Rattle.drawing_types.specs.declared.shape.Point.{Point}
use Rattle.drawing_types.specs.declared.shape.Rect.{Rect}
use Rattle.elk_doc.specs.declared.document.LevelOptions.{LevelOptions}
use Rattle.elk_doc.specs.declared.drawing.Certificate.{Certificate}
use Rattle.elk_doc.specs.declared.drawing.Placed.{Placed}
use Rattle.elk_doc.specs.Document.{Document}
use Rattle.elk_doc.specs.Level.{children}
use Rattle.elk_doc.specs.Apart.{Apart, framed}
use Rattle.level_model.specs.FromPlan.{LevelDrawing}
use Rattle.level_model.specs.Apart.{ChildrenApart, drawn_outline}
use Rattle.working_frame.specs.Rotated.{child_number, level_of}
use Rattle.working_frame.specs.Drawing.{IsRotatedDrawing}

-- a rectangle that is moved
abbrev pub shifted : Point → Rect → Rect
shifted by r = record { x = by.x +ℤ r.x; y = by.y +ℤ r.y; width = r.width; height = r.height }

-- The outline of a child, in the frame, is that of the level's drawing, moved.
abbrev pub OutlinesRotateBack : Type 0
OutlinesRotateBack =
    (d : Document) (p : Placed) (n : ℕ) (o : LevelOptions) (v : LevelDrawing) (by : Point) → IsRotatedDrawing d p n o.direction v by
    → (i : ℕ) → i < length (children d n) → framed d p o (child_number d n i) ≡ shifted by (drawn_outline (level_of d p n o) v i)

-- the children of a level's drawing keep their distances
abbrev pub AllApart : Document → Placed → ℕ → LevelOptions → LevelDrawing → Certificate → Type 0
AllApart d p n o v c =
    (i j : ℕ) → i < length (children d n) → j < length (children d n) → i ≢ j → ChildrenApart (level_of d p n o) v c.layers i j

-- Children of a level that is neither split nor one of boxes keep their distances where its drawing does.
abbrev pub DistancesRotateBack : Type 0
DistancesRotateBack =
    (d : Document) (p : Placed) (n : ℕ) (o : LevelOptions) (v : LevelDrawing) (by : Point) (c : Certificate)
    → IsRotatedDrawing d p n o.direction v by → AllApart d p n o v c → IsFalse o.split → IsFalse o.boxes → Apart d p n o c
