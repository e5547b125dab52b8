-- How rows are filled, box by box.
use Rattle.std.specs.Prelude.{◌≡◌, ℕ, zero, suc, ◌<◌, ◌≤◌, ◌*◌, ◌^◌, Bool, true, false, cond, List, ℤ, pos, ◌+ℤ◌, ◌≤ℤ◌, ◌<ℤ◌, int_lt}
use Rattle.std.specs.Prelude.{length}
use Rattle.std.specs.Int.{int_max, int_min}
use Rattle.drawing_types.specs.declared.shape.Point.{Point}
use Rattle.drawing_types.specs.declared.shape.Size.{Size}
use Rattle.box_pack.specs.declared.walk.Cursor.{Cursor}
use Rattle.box_pack.specs.declared.walk.Page.{Page}
use Rattle.box_pack.specs.declared.walk.Measured.{Measured}
use Rattle.box_pack.specs.Boxes.{size_at, point_at, long_side}

-- how far a box would reach in the row; a row that is empty takes any box
abbrev pub reach : Cursor → Size → ℤ
reach c s = cond (int_lt (pos 0) c.x) (c.x +ℤ s.width) (pos 0)

abbrev pub overflows : Page → Cursor → Size → Bool
overflows r c s = int_lt r.limit (reach c s)

-- the row below
abbrev pub below : ℤ → Cursor → Cursor
below gap c = record { x = pos 0; y = (c.y +ℤ c.tall) +ℤ gap; tall = pos 0 }

-- the row in which the box stands, before it does: this one, or the next
abbrev pub row_or : ℤ → Cursor → Bool → Cursor
row_or gap c true = below gap c
row_or gap c false = c

abbrev pub row_for : Page → Cursor → Size → Cursor
row_for r c s = row_or r.gap c (overflows r c s)

abbrev pub spot_for : Page → Cursor → Size → Point
spot_for r c s = record { x = (row_for r c s).x; y = (row_for r c s).y }

-- the row behind the box
abbrev pub behind : ℤ → Cursor → Size → Cursor
behind gap c s = record { x = (c.x +ℤ s.width) +ℤ gap; y = c.y; tall = int_max c.tall s.height }

abbrev pub advance : Page → Cursor → Size → Cursor
advance r c s = behind r.gap (row_for r c s) s

-- the cursor before box i
unfoldable pub before : List Size → Page → ℕ → Cursor
before sizes r zero = record { x = pos 0; y = pos 0; tall = pos 0 }
before sizes r (suc i) = advance r (before sizes r i) (size_at sizes i)

-- the place of box i
abbrev pub spot : List Size → Page → ℕ → Point
spot sizes r i = spot_for r (before sizes r i) (size_at sizes i)

-- the greatest of the first n values, none of which is below 0
unfoldable pub greatest_of : (ℕ → ℤ) → ℕ → ℤ
greatest_of value zero = pos 0
greatest_of value (suc i) = int_max (greatest_of value i) (value i)

abbrev pub spot_right : List Size → Page → ℕ → ℤ
spot_right sizes r i = (spot sizes r i).x +ℤ (size_at sizes i).width

abbrev pub spot_bottom : List Size → Page → ℕ → ℤ
spot_bottom sizes r i = (spot sizes r i).y +ℤ (size_at sizes i).height

-- the least of these: a number that no row reaches, and how far the first boxes that began a row would have reached
abbrev pub sooner : ℤ → Bool → ℤ → ℤ
sooner z true reached = int_min z reached
sooner z false reached = z

unfoldable pub next_to : List Size → Page → ℕ → ℤ
next_to sizes r zero = pos (2 ^ 60)
next_to sizes r (suc i) =
    sooner (next_to sizes r i) (overflows r (before sizes r i) (size_at sizes i)) (reach (before sizes r i) (size_at sizes i))

-- the extent of the first boxes, and the next limit that changes their rows
abbrev pub measured_to : List Size → Page → ℕ → Measured
measured_to sizes r i =
    record {
      extent = record { width = greatest_of (spot_right sizes r) i; height = greatest_of (spot_bottom sizes r) i };
      next = next_to sizes r i;
    }

-- the same with one more box
abbrev pub grown : Size → Cursor → Size → Size
grown extent row s = record { width = int_max extent.width (row.x +ℤ s.width); height = int_max extent.height (row.y +ℤ s.height) }

abbrev pub next_with : ℤ → Page → Cursor → Size → ℤ
next_with next r c s = sooner next (overflows r c s) (reach c s)

-- numbers in range while rows are filled
pub record IsNear (n : ℕ) (c : Cursor) : Type 0 where
  pub right : pos 0 ≤ℤ c.x
  pub near : c.x ≤ℤ pos (n * 2 ^ 48)
  pub down : pos 0 ≤ℤ c.y
  pub tall : pos 0 ≤ℤ c.tall
  pub low : (c.y +ℤ c.tall) ≤ℤ pos (n * 2 ^ 48)

abbrev pub IsPage : Page → Type 0
IsPage r = (pos 1 ≤ℤ r.gap) × (r.gap ≤ℤ pos (2 ^ 20)) × (pos 0 ≤ℤ r.limit)

-- the first n places are those of the boxes
abbrev pub AreSpots : List Size → Page → ℕ → List Point → Type 0
AreSpots sizes r n at = (i : ℕ) → i < n → point_at at i ≡ spot sizes r i

-- the long side of the rows of a limit
abbrev pub page_of : ℤ → ℤ → Page
page_of gap limit = record { gap = gap; limit = limit }

abbrev pub long_at : List Size → ℤ → ℤ → ℤ
long_at sizes gap limit = long_side (measured_to sizes (page_of gap limit) (length sizes)).extent

-- no limit gives a smaller long side, and every smaller limit gives a greater one
pub record IsLeastLimit (sizes : List Size) (gap limit : ℤ) : Type 0 where
  pub whole : pos 0 ≤ℤ limit
  pub no_smaller : (k : ℤ) → pos 0 ≤ℤ k → long_at sizes gap limit ≤ℤ long_at sizes gap k
  pub least : (k : ℤ) → pos 0 ≤ℤ k → k <ℤ limit → long_at sizes gap limit <ℤ long_at sizes gap k
