-- Ranges of numbers and points.
use Rattle.std.specs.Prelude.{ℕ, ◌≤◌, ◌-◌, ℤ, pos, neg_ℤ, ◌≤ℤ◌, ◌^◌}
use Rattle.drawing_types.specs.declared.shape.Point.{Point}

-- z lies from low to high
pub record IsWithin (low high z : ℤ) : Type 0 where
  pub above : low ≤ℤ z
  pub below : z ≤ℤ high

-- a point whose coordinates are at most this far from 0
pub record IsPlaceWithin (far : ℕ) (p : Point) : Type 0 where
  pub x : IsWithin (neg_ℤ (pos far)) (pos far) p.x
  pub y : IsWithin (neg_ℤ (pos far)) (pos far) p.y

-- coordinates of a drawing lie from -2^53 to 2^53
abbrev pub IsNear : Point → Type 0
IsNear p = IsPlaceWithin (2 ^ 53) p
