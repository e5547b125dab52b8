-- Rectangles that keep a distance.
use Rattle.std.specs.Prelude.{ℤ, ◌+ℤ◌, ◌≤ℤ◌, ◌⊎◌}
use Rattle.drawing_types.specs.declared.shape.Rect.{Rect}
use Rattle.drawing_types.specs.Shapes.{right_of, bottom_of}

-- one rectangle lies left of another, or above it, with this room between them
abbrev pub IsLeftBy : ℤ → Rect → Rect → Type 0
IsLeftBy gap r s = (right_of r +ℤ gap) ≤ℤ s.x

abbrev pub IsAboveBy : ℤ → Rect → Rect → Type 0
IsAboveBy gap r s = (bottom_of r +ℤ gap) ≤ℤ s.y

-- one rectangle stands left of another or above it, with this room between them
abbrev pub StandsClear : ℤ → Rect → Rect → Type 0
StandsClear gap r s = IsLeftBy gap r s ⊎ IsAboveBy gap r s
