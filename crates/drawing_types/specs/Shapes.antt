-- Rectangles: edges, what holds what, and the least rectangle round two.
use Rattle.std.specs.Prelude.{ℤ, pos, negsuc, ◌+ℤ◌, ◌-ℤ◌, ◌≤ℤ◌, ◌/◌, ◌+◌, Bool, true, false}
use Rattle.std.specs.Int.{int_min, int_max}
use Rattle.drawing_types.specs.declared.shape.Point.{Point}
use Rattle.drawing_types.specs.declared.shape.Size.{Size}
use Rattle.drawing_types.specs.declared.shape.Rect.{Rect}
use Rattle.drawing_types.specs.declared.shape.Side.{Side}
use Rattle.drawing_types.specs.declared.shape.Side.TheVariants.{North, East, South, West}

-- the half of a number, rounded down
abbrev pub half_of : ℤ → ℤ
half_of (pos n) = pos (n / 2)
half_of (negsuc n) = negsuc (n / 2)

-- the x of a rectangle's right edge and the y of its lower edge
abbrev pub right_of : Rect → ℤ
right_of r = r.x +ℤ r.width

abbrev pub bottom_of : Rect → ℤ
bottom_of r = r.y +ℤ r.height

-- the rectangle of this size at this place
abbrev pub rect_at : Point → Size → Rect
rect_at p s = record { x = p.x; y = p.y; width = s.width; height = s.height }

-- a point as a rectangle without size
abbrev pub point_rect : Point → Rect
point_rect p = record { x = p.x; y = p.y; width = pos 0; height = pos 0 }

-- a point, moved by the place of a rectangle
abbrev pub moved_by : Rect → Point → Point
moved_by r p = record { x = r.x +ℤ p.x; y = r.y +ℤ p.y }

-- the outer rectangle holds the inner one, borders included
pub record Holds (outer inner : Rect) : Type 0 where
  pub left : outer.x ≤ℤ inner.x
  pub top : outer.y ≤ℤ inner.y
  pub right : right_of inner ≤ℤ right_of outer
  pub bottom : bottom_of inner ≤ℤ bottom_of outer

-- the size of the least stretch that holds two, each given by its low end and its size
abbrev pub hull_size : ℤ → ℤ → ℤ → ℤ → ℤ
hull_size a a_size b b_size = int_max (a +ℤ a_size) (b +ℤ b_size) -ℤ int_min a b

-- the least rectangle that holds two
abbrev pub hull : Rect → Rect → Rect
hull r s =
    record {
      x = int_min r.x s.x;
      y = int_min r.y s.y;
      width = hull_size r.x r.width s.x s.width;
      height = hull_size r.y r.height s.y s.height;
    }

abbrev pub origin : Point
origin = record { x = pos 0; y = pos 0 }

abbrev pub no_size : Size
no_size = record { width = pos 0; height = pos 0 }

-- the side that a word names
abbrev pub is_side : Side → Side → Bool
is_side North North = true
is_side East East = true
is_side South South = true
is_side West West = true
is_side _ _ = false
