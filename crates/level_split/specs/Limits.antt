-- How wide rows of parts may be.
use Rattle.std.specs.Prelude.{◌≡◌, ℕ, zero, suc, ◌+◌, ◌*◌, ◌<◌, ◌≤◌, List, ℤ, pos, ◌+ℤ◌, length, nat_abs}
use Rattle.std.specs.Int.{int_max}
use Rattle.drawing_types.specs.declared.shape.Size.{Size}
use Rattle.box_pack.specs.Boxes.{IsGreatest, size_at}

-- the area of a size whose sides are each longer by a gap, and those of the first n sizes together
abbrev pub area_of : Size → ℤ → ℕ
area_of s gap = nat_abs (s.width +ℤ gap) * nat_abs (s.height +ℤ gap)

unfoldable pub area_to : List Size → ℤ → ℕ → ℕ
area_to sizes gap zero = 0
area_to sizes gap (suc k) = area_to sizes gap k + area_of (size_at sizes k) gap

-- r is the greatest whole number whose square is at most n
pub record IsRoot (n r : ℕ) : Type 0 where
  pub within : r * r ≤ n
  pub beyond : n < (r + 1) * (r + 1)

abbrev pub width_at : List Size → ℕ → ℤ
width_at sizes k = (size_at sizes k).width

-- the greatest of all widths
abbrev pub IsWidest : List Size → ℤ → Type 0
IsWidest sizes w = IsGreatest (length sizes) (width_at sizes) w

-- The limit is the greater of two: the greatest width, and the side of the greatest square of whole sides that is no larger than
-- all sizes together, each with a gap on two sides.
pub record IsRowLimit (sizes : List Size) (gap limit : ℤ) : Type 0 where
  pub widest : ℤ
  pub is_widest : IsWidest sizes widest
  pub root : ℕ
  pub is_root : IsRoot (area_to sizes gap (length sizes)) root
  pub limit_is : limit ≡ int_max (pos root) widest
