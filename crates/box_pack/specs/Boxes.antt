-- Sizes of boxes, their places in rows, and the extent of these.
use Rattle.std.specs.Prelude.{◌≡◌, ℕ, suc, ◌-◌, ◌<◌, ◌≤◌, ◌^◌, List, ℤ, pos, ◌+ℤ◌, ◌≤ℤ◌, ◌<ℤ◌, length, slice_index_or, All}
use Rattle.std.specs.Int.{int_max}
use Rattle.drawing_types.specs.declared.shape.Point.{Point}
use Rattle.drawing_types.specs.declared.shape.Size.{Size}

abbrev pub size_at : List Size → ℕ → Size
size_at sizes i = slice_index_or sizes i (record { width = pos 0; height = pos 0 })

abbrev pub point_at : List Point → ℕ → Point
point_at at i = slice_index_or at i (record { x = pos 0; y = pos 0 })

-- widths and heights from 0 to 2^48, less a greatest gap
abbrev pub IsSize : Size → Type 0
IsSize s = (pos 0 ≤ℤ s.width) × (s.width ≤ℤ pos (2 ^ 48 - 2 ^ 20)) × (pos 0 ≤ℤ s.height) × (s.height ≤ℤ pos (2 ^ 48 - 2 ^ 20))

abbrev pub AreSizes : List Size → Type 0
AreSizes sizes = All IsSize sizes

-- the same by number
abbrev pub EachSize : List Size → Type 0
EachSize sizes = (i : ℕ) → i < length sizes → IsSize (size_at sizes i)

-- how far a box reaches to the right and downwards
abbrev pub right_of : List Size → List Point → ℕ → ℤ
right_of sizes at i = (point_at at i).x +ℤ (size_at sizes i).width

abbrev pub bottom_of : List Size → List Point → ℕ → ℤ
bottom_of sizes at i = (point_at at i).y +ℤ (size_at sizes i).height

-- where box i+1 would reach to if it stood beside box i
abbrev pub reach_beside : List Size → ℤ → List Point → ℕ → ℤ
reach_beside sizes gap at i = (right_of sizes at i +ℤ gap) +ℤ (size_at sizes (suc i)).width

-- h is the greatest height in the row of box i, among the boxes up to box i
pub record IsTallest (sizes : List Size) (at : List Point) (i : ℕ) (h : ℤ) : Type 0 where
  pub some : (j : ℕ) × (j ≤ i) × ((point_at at j).y ≡ (point_at at i).y) × ((size_at sizes j).height ≡ h)
  pub all : (j : ℕ) → j ≤ i → (point_at at j).y ≡ (point_at at i).y → (size_at sizes j).height ≤ℤ h

-- Box 0 stands at the origin. Box i+1 stands beside box i exactly where it then reaches no further than the limit.
-- Otherwise it begins a row, below the tallest box of the row of box i.
pub record IsPacked (sizes : List Size) (gap limit : ℤ) (at : List Point) : Type 0 where
  pub count : length at ≡ length sizes
  pub first : 0 < length sizes → point_at at 0 ≡ record { x = pos 0; y = pos 0 }
  pub beside : (i : ℕ) → suc i < length sizes → reach_beside sizes gap at i ≤ℤ limit
      → point_at at (suc i) ≡ record { x = right_of sizes at i +ℤ gap; y = (point_at at i).y }
  pub below : (i : ℕ) → suc i < length sizes → limit <ℤ reach_beside sizes gap at i
      → (h : ℤ) × IsTallest sizes at i h × (point_at at (suc i) ≡ record { x = pos 0; y = ((point_at at i).y +ℤ h) +ℤ gap })

-- z is the greatest of the first n values, and 0 where there are none
pub record IsGreatest (n : ℕ) (value : ℕ → ℤ) (z : ℤ) : Type 0 where
  pub none : n ≡ 0 → z ≡ pos 0
  pub some : 0 < n → (i : ℕ) × (i < n) × (value i ≡ z)
  pub all : (i : ℕ) → i < n → value i ≤ℤ z

-- the extent of placed boxes
pub record HasExtent (sizes : List Size) (at : List Point) (extent : Size) : Type 0 where
  pub width : IsGreatest (length sizes) (right_of sizes at) extent.width
  pub height : IsGreatest (length sizes) (bottom_of sizes at) extent.height

-- the long side of an extent
abbrev pub long_side : Size → ℤ
long_side s = int_max s.width s.height
