-- Axis-parallel segments: where one meets or enters a rectangle, and where two share a piece.
use Rattle.std.specs.Prelude.{◌≡◌, ◌≢◌, ◌⊎◌, ℕ, ◌<◌, ℤ, pos, ◌*ℤ◌, ◌+ℤ◌, ◌≤ℤ◌, ◌<ℤ◌}
use Rattle.std.specs.Int.{int_min, int_max}
use Rattle.drawing_types.specs.declared.shape.Point.{Point}
use Rattle.drawing_types.specs.declared.shape.Rect.{Rect}
use Rattle.drawing_types.specs.Shapes.{right_of, bottom_of}

-- two points agree in a coordinate, so that the segment between them is parallel to an axis
abbrev pub IsAxisParallel : Point → Point → Type 0
IsAxisParallel a b = (a.x ≡ b.x) ⊎ (a.y ≡ b.y)

-- z lies between a and b, in either order, both included
abbrev pub IsBetween : ℤ → ℤ → ℤ → Type 0
IsBetween a b z = (int_min a b ≤ℤ z) × (z ≤ℤ int_max a b)

-- the axis-parallel segment from a to b holds the point p
pub record IsOnSegment (a b p : Point) : Type 0 where
  pub across : IsBetween a.x b.x p.x
  pub along : IsBetween a.y b.y p.y

-- The closed rectangle holds the point p of the plane that was enlarged k times.
pub record IsInRect (k : ℕ) (r : Rect) (p : Point) : Type 0 where
  pub left : (pos k *ℤ r.x) ≤ℤ p.x
  pub right : p.x ≤ℤ (pos k *ℤ right_of r)
  pub top : (pos k *ℤ r.y) ≤ℤ p.y
  pub bottom : p.y ≤ℤ (pos k *ℤ bottom_of r)

-- The point p of the plane that was enlarged k times lies strictly inside the rectangle.
pub record IsInside (k : ℕ) (r : Rect) (p : Point) : Type 0 where
  pub left : (pos k *ℤ r.x) <ℤ p.x
  pub right : p.x <ℤ (pos k *ℤ right_of r)
  pub top : (pos k *ℤ r.y) <ℤ p.y
  pub bottom : p.y <ℤ (pos k *ℤ bottom_of r)

-- a point of the plane that was enlarged k times
abbrev pub scaled : ℕ → Point → Point
scaled k p = record { x = pos k *ℤ p.x; y = pos k *ℤ p.y }

-- Some point of the segment lies in the closed rectangle. Its coordinates may be fractions: it is whole once the plane is
-- enlarged k times.
pub record MeetsRect (a b : Point) (r : Rect) : Type 0 where
  pub k : ℕ
  pub k_above : 0 < k
  pub point : Point
  pub on_segment : IsOnSegment (scaled k a) (scaled k b) point
  pub in_rect : IsInRect k r point

-- Some point of the segment, with fractions as coordinates, lies strictly inside the rectangle.
pub record EntersRect (a b : Point) (r : Rect) : Type 0 where
  pub k : ℕ
  pub k_above : 0 < k
  pub point : Point
  pub on_segment : IsOnSegment (scaled k a) (scaled k b) point
  pub inside : IsInside k r point

-- Two different points lie on both segments, and with them the piece between them. Where segments with whole ends share a
-- piece of positive length, its ends are whole.
pub record Share (a b c d : Point) : Type 0 where
  pub one : Point
  pub other : Point
  pub differ : one ≢ other
  pub one_on_first : IsOnSegment a b one
  pub one_on_second : IsOnSegment c d one
  pub other_on_first : IsOnSegment a b other
  pub other_on_second : IsOnSegment c d other

-- The stretch between a and b meets the closed stretch of this size from low on.
pub record MeetsSpan (a b low size : ℤ) : Type 0 where
  pub real : pos 0 ≤ℤ size
  pub starts : low ≤ℤ int_max a b
  pub ends : int_min a b ≤ℤ (low +ℤ size)

-- The stretch between a and b has a point strictly inside the stretch of this size from low on.
pub record EntersSpan (a b low size : ℤ) : Type 0 where
  pub real : pos 0 <ℤ size
  pub starts : low <ℤ int_max a b
  pub ends : int_min a b <ℤ (low +ℤ size)

-- A rectangle by its borders: it is not empty, and more than a point.
pub record IsPiece (left right top bottom : ℤ) : Type 0 where
  pub across : left ≤ℤ right
  pub along : top ≤ℤ bottom
  pub long : (left <ℤ right) ⊎ (top <ℤ bottom)
