-- How far the outlines and the sections of a drawing reach.
use Rattle.std.specs.Prelude.{◌≡◌, ◌^◌, List, [], ◌∷◌, ◌++◌, map, ℤ, pos, neg_ℤ, ◌-ℤ◌}
use Rattle.std.specs.Int.{int_max, int_min}
use Rattle.drawing_types.specs.declared.shape.Point.{Point}
use Rattle.drawing_types.specs.declared.shape.Rect.{Rect}
use Rattle.drawing_types.specs.declared.section.Section.{Section}
use Rattle.drawing_types.specs.Shapes.{right_of, bottom_of}
use Rattle.drawing_types.specs.Ranges.{IsWithin}
use Rattle.working_frame.specs.declared.spanning.Reach.{Reach}

-- places from -2^54 to 2^54 and sizes from 0 to 2^54, so that the corners are machine numbers
pub record IsNear (r : Rect) : Type 0 where
  pub x : IsWithin (neg_ℤ (pos (2 ^ 54))) (pos (2 ^ 54)) r.x
  pub y : IsWithin (neg_ℤ (pos (2 ^ 54))) (pos (2 ^ 54)) r.y
  pub width : IsWithin (pos 0) (pos (2 ^ 54)) r.width
  pub height : IsWithin (pos 0) (pos (2 ^ 54)) r.height

-- the upper left and the lower right corner of an outline; the other two share their coordinates
abbrev pub corners : Rect → List Point
corners r = record { x = r.x; y = r.y } ∷ (record { x = right_of r; y = bottom_of r } ∷ [])

unfoldable pub corners_of : List Rect → List Point
corners_of [] = []
corners_of (r ∷ rs) = corners r ++ corners_of rs

-- the points of a section: its start, its bends and its end
abbrev pub points_along : Section → List Point
points_along s = s.start ∷ (s.bends ++ (s.end ∷ []))

unfoldable pub points_of : List Section → List Point
points_of [] = []
points_of (s ∷ ss) = points_along s ++ points_of ss

-- the points that a drawing reaches
abbrev pub reached : List Rect → List Section → List Point
reached outlines sections = corners_of outlines ++ points_of sections

-- the least of some numbers, and 0 where there are none
unfoldable pub least : List ℤ → ℤ
least [] = pos 0
least (z ∷ []) = z
least (z ∷ y ∷ zs) = int_min z (least (y ∷ zs))

-- the greatest of some numbers, and 0 where there are none
unfoldable pub greatest : List ℤ → ℤ
greatest [] = pos 0
greatest (z ∷ []) = z
greatest (z ∷ y ∷ zs) = int_max z (greatest (y ∷ zs))

abbrev pub abscissae : List Point → List ℤ
abscissae ps = map (λ p. p.x) ps

abbrev pub heights : List Point → List ℤ
heights ps = map (λ p. p.y) ps

-- the least and the greatest coordinates of the points
pub record IsReach (ps : List Point) (reach : Reach) : Type 0 where
  pub left : reach.low.x ≡ least (abscissae ps)
  pub top : reach.low.y ≡ least (heights ps)
  pub right : reach.high.x ≡ greatest (abscissae ps)
  pub bottom : reach.high.y ≡ greatest (heights ps)

-- a number that is taken from all of some numbers is taken from their least and from their greatest
pub record ReachMovesBy (x : ℤ) (zs : List ℤ) : Type 0 where
  pub low : least (map (λ z. z -ℤ x) zs) ≡ least zs -ℤ x
  pub high : greatest (map (λ z. z -ℤ x) zs) ≡ greatest zs -ℤ x

abbrev pub ReachMoves : Type 0
ReachMoves = (x z : ℤ) (zs : List ℤ) → ReachMovesBy x (z ∷ zs)
