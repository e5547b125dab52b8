-- Routes as lists of points, each two consecutive points with a segment between them.
use Rattle.std.specs.Prelude.{ℕ, ◌+◌, ◌<◌, length, slice_index_or}
use Rattle.drawing_types.specs.declared.shape.Point.{Point}
use Rattle.drawing_types.specs.declared.shape.Rect.{Rect}
use Rattle.drawing_types.specs.declared.section.Section.{Section}
use Rattle.drawing_types.specs.Shapes.{origin}
use Rattle.elk_doc.specs.Drawing.{points_of}
use Rattle.drawing_types.specs.Segments.{IsAxisParallel, MeetsRect, EntersRect, Share}
use Rattle.elk_doc.specs.Route.{IsStep, IsTurn}

abbrev pub point_of : Section → ℕ → Point
point_of s i = slice_index_or (points_of s) i origin

-- the section has a segment from its point i to the next
abbrev pub HasSegment : Section → ℕ → Type 0
HasSegment s i = i + 1 < length (points_of s)

abbrev pub AreSteps : Section → Type 0
AreSteps s = (i : ℕ) → HasSegment s i → IsStep (point_of s i) (point_of s (i + 1))

abbrev pub AreTurns : Section → Type 0
AreTurns s = (i : ℕ) → i + 2 < length (points_of s) → IsTurn (point_of s i) (point_of s (i + 1)) (point_of s (i + 2))

abbrev pub AreParallel : Section → Type 0
AreParallel s = (i : ℕ) → HasSegment s i → IsAxisParallel (point_of s i) (point_of s (i + 1))

-- no segment meets the closed rectangle, or enters it
abbrev pub KeepsOff : Section → Rect → Type 0
KeepsOff s r = (i : ℕ) → HasSegment s i → MeetsRect (point_of s i) (point_of s (i + 1)) r → ⊥

abbrev pub KeepsOut : Section → Rect → Type 0
KeepsOut s r = (i : ℕ) → HasSegment s i → EntersRect (point_of s i) (point_of s (i + 1)) r → ⊥

-- the segment from a to b has no piece in common with the section, and two sections have none
abbrev pub IsFreeOf : Point → Point → Section → Type 0
IsFreeOf a b s = (j : ℕ) → HasSegment s j → Share a b (point_of s j) (point_of s (j + 1)) → ⊥

abbrev pub AreFree : Section → Section → Type 0
AreFree s t = (i : ℕ) → HasSegment s i → IsFreeOf (point_of s i) (point_of s (i + 1)) t
