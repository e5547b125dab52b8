-- Rectangles that hold what lies in the parts of a level, in the frame of its direction, with the room of components.
use Rattle.std.specs.Prelude.{◌⊎◌, ℕ, ◌<◌, ℤ, ◌+ℤ◌, ◌≤ℤ◌, List, length, slice_index_or, pos}
use Rattle.drawing_types.specs.declared.shape.Rect.{Rect}
use Rattle.elk_doc.specs.declared.document.Direction.{Direction}
use Rattle.elk_doc.specs.declared.document.LevelOptions.{LevelOptions}
use Rattle.elk_doc.specs.declared.drawing.Certificate.{Certificate}
use Rattle.elk_doc.specs.declared.drawing.Placed.{Placed}
use Rattle.drawing_types.specs.declared.section.Section.{Section}
use Rattle.elk_doc.specs.Document.{Document}
use Rattle.drawing_types.specs.Shapes.{origin}
use Rattle.elk_doc.specs.Level.{IsChild, IsEdge, source_node}
use Rattle.elk_doc.specs.Drawing.{part_in, points_of, section_of}
use Rattle.elk_doc.specs.Places.{outline_of}
use Rattle.elk_doc.specs.Shapes.{rotated}
use Rattle.drawing_types.specs.Shapes.{bottom_of, point_rect, right_of}
use Rattle.layout_check.specs.declared.box_bounds.Bounds.{Bounds}

-- the bounds hold a rectangle in the frame of a direction, with this room right of it and below
pub record Encloses (gap : ℤ) (way : Direction) (b : Bounds) (r : Rect) : Type 0 where
  pub left : b.left ≤ℤ (rotated way r).x
  pub top : b.top ≤ℤ (rotated way r).y
  pub right : (right_of (rotated way r) +ℤ gap) ≤ℤ b.right
  pub bottom : (bottom_of (rotated way r) +ℤ gap) ≤ℤ b.bottom

-- the outer bounds hold the inner ones
pub record Covers (outer inner : Bounds) : Type 0 where
  pub left : outer.left ≤ℤ inner.left
  pub top : outer.top ≤ℤ inner.top
  pub right : inner.right ≤ℤ outer.right
  pub bottom : inner.bottom ≤ℤ outer.bottom

abbrev pub bounds_at : List Bounds → ℕ → Bounds
bounds_at xs i = slice_index_or xs i (record { left = pos 0; top = pos 0; right = pos 0; bottom = pos 0 })

-- the bounds of the part numbered i hold a rectangle
abbrev pub Held : LevelOptions → List Bounds → ℕ → Rect → Type 0
Held o xs i r = (i < length xs) × Encloses o.component o.direction (bounds_at xs i) r

-- what the one bounds hold the others hold too
abbrev pub Keeps : LevelOptions → List Bounds → List Bounds → Type 0
Keeps o old new = (i : ℕ) (r : Rect) → Held o old i r → Held o new i r

-- the bounds of its part hold the outline of a child, each point of a route, and each point of an edge's route
abbrev pub OutlineHeld : Document → Placed → ℕ → LevelOptions → Certificate → List Bounds → ℕ → Type 0
OutlineHeld d p n o c xs a = IsChild d n a → Held o xs (part_in d n c a) (outline_of d p a)

abbrev pub SectionHeld : LevelOptions → List Bounds → ℕ → Section → Type 0
SectionHeld o xs part s =
    (i : ℕ) → i < length (points_of s) → Held o xs part (point_rect (slice_index_or (points_of s) i origin))

abbrev pub RouteHeld : Document → Placed → ℕ → LevelOptions → Certificate → List Bounds → ℕ → Type 0
RouteHeld d p n o c xs e = IsEdge d n e → SectionHeld o xs (part_in d n c (source_node d e)) (section_of p e)

-- the one bounds lie left of the others or above them, or the other way round
abbrev pub BoundsApart : Bounds → Bounds → Type 0
BoundsApart b c = ((b.right ≤ℤ c.left) ⊎ (b.bottom ≤ℤ c.top)) ⊎ ((c.right ≤ℤ b.left) ⊎ (c.bottom ≤ℤ b.top))
