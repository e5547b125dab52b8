-- The borders of all points of a route: what lies off them lies off the route.
use Rattle.std.specs.Prelude.{◌≡◌, ◌⊎◌, ℕ, ◌<◌, pos, ◌≤ℤ◌, ◌<ℤ◌, List, length, slice_index_or}
use Rattle.drawing_types.specs.declared.shape.Point.{Point}
use Rattle.drawing_types.specs.declared.shape.Rect.{Rect}
use Rattle.elk_doc.specs.declared.drawing.Placed.{Placed}
use Rattle.drawing_types.specs.declared.section.Section.{Section}
use Rattle.elk_doc.specs.Document.{Document}
use Rattle.elk_doc.specs.Drawing.{points_of, section_of}
use Rattle.drawing_types.specs.Shapes.{bottom_of, right_of}
use Rattle.layout_check.specs.declared.bounds.RouteBounds.{RouteBounds}
use Rattle.layout_check.specs.Stretches.{point_of}

-- the bounds hold a point, and all points of a route
pub record HoldsPoint (b : RouteBounds) (p : Point) : Type 0 where
  pub left : b.left ≤ℤ p.x
  pub right : p.x ≤ℤ b.right
  pub top : b.top ≤ℤ p.y
  pub bottom : p.y ≤ℤ b.bottom

abbrev pub HoldsRoute : RouteBounds → Section → Type 0
HoldsRoute b s = (i : ℕ) → i < length (points_of s) → HoldsPoint b (point_of s i)

-- the bounds have no point in a closed rectangle, and two bounds have none in common
abbrev pub LieOff : RouteBounds → Rect → Type 0
LieOff b r = ((b.right <ℤ r.x) ⊎ (right_of r <ℤ b.left)) ⊎ ((b.bottom <ℤ r.y) ⊎ (bottom_of r <ℤ b.top))

abbrev pub LieApart : RouteBounds → RouteBounds → Type 0
LieApart b c = ((b.right <ℤ c.left) ⊎ (c.right <ℤ b.left)) ⊎ ((b.bottom <ℤ c.top) ⊎ (c.bottom <ℤ b.top))

abbrev pub no_bounds : RouteBounds
no_bounds = record { left = pos 0; top = pos 0; right = pos 0; bottom = pos 0 }

abbrev pub bounds_at : List RouteBounds → ℕ → RouteBounds
bounds_at xs e = slice_index_or xs e no_bounds

-- bounds of the routes of the edges below n, and of all edges
pub record AreRouteBoundsBelow (p : Placed) (n : ℕ) (xs : List RouteBounds) : Type 0 where
  pub count : length xs ≡ n
  pub each : (e : ℕ) → e < n → HoldsRoute (bounds_at xs e) (section_of p e)

abbrev pub AreRouteBounds : Document → Placed → List RouteBounds → Type 0
AreRouteBounds d p xs = AreRouteBoundsBelow p (length d.edges) xs
