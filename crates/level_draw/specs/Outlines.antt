-- The outlines of children, from the corners of their boxes.
use Rattle.std.specs.Prelude.{◌≡◌, ℕ, ◌<◌, ◌^◌, List, pos, ◌+ℤ◌, length, slice_index_or}
use Rattle.drawing_types.specs.declared.shape.Point.{Point}
use Rattle.drawing_types.specs.declared.shape.Rect.{Rect}
use Rattle.drawing_types.specs.Ranges.{IsPlaceWithin}
use Rattle.level_model.specs.declared.table.ChildAt.{ChildAt}
use Rattle.level_model.specs.FromPlan.{point_or}
use Rattle.level_model.specs.Table.{child_in}

-- an outline that is known from the corner of its child's box
abbrev pub outline_from : Rect → Point → Rect
outline_from r corner = record { x = corner.x +ℤ r.x; y = corner.y +ℤ r.y; width = r.width; height = r.height }

-- both lie near 0
pub record IsNearby (r : Rect) (corner : Point) : Type 0 where
  pub outline_near : IsPlaceWithin (2 ^ 53) (record { x = r.x; y = r.y })
  pub corner_near : IsPlaceWithin (2 ^ 53) corner

pub record AreNearby (children : List ChildAt) (boxes : List Point) : Type 0 where
  pub as_many : length boxes ≡ length children
  pub each : (c : ℕ) → c < length children → IsNearby (child_in children c).outline (point_or boxes c)

abbrev pub rect_in : List Rect → ℕ → Rect
rect_in rs c = slice_index_or rs c (record { x = pos 0; y = pos 0; width = pos 0; height = pos 0 })

-- the outlines of the first n children
pub record AreOutlines (children : List ChildAt) (boxes : List Point) (n : ℕ) (outlines : List Rect) : Type 0 where
  pub as_many : length outlines ≡ n
  pub each : (c : ℕ) → c < n → rect_in outlines c ≡ outline_from (child_in children c).outline (point_or boxes c)
