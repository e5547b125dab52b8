-- What is rotated back is where it was drawn.
use Rattle.std.proofs.Common.{◌≡◌, List, [], ◌∷◌, ℤ, ◌+ℤ◌, ◌-ℤ◌, map, arith, refl, ap₂}
use Rattle.std.proofs.lemmas.Int.{ints}
use Rattle.drawing_types.specs.declared.shape.Point.{Point}
use Rattle.drawing_types.specs.declared.shape.Size.{Size}
use Rattle.drawing_types.specs.declared.shape.Rect.{Rect}
use Rattle.elk_doc.specs.declared.document.Direction.{Direction}
use Rattle.elk_doc.specs.declared.document.Direction.TheVariants.{Right, Left, Down, Up}
use Rattle.drawing_types.specs.declared.section.Section.{Section}
use Rattle.elk_doc.specs.Shapes.{rotated}
use Rattle.drawing_types.specs.Shapes.{rect_at}
use Rattle.drawing_laws.specs.Rotating.{rotated_point}
use Rattle.drawing_laws.proofs.FrameLaws.{backs}
use Rattle.working_frame.specs.Rotated.{rotated_place, rotated_size}
use Rattle.working_frame.specs.Drawing.{IsRotatedSection, plus}
use Rattle.level_io.specs.Back.{box_back, moved_back, place_back, section_back, size_of}

pub box_there : (way : Direction) (at : Point) (r : Rect) → rotated way (box_back way at r) ≡ rect_at at (rotated_size way (size_of r))
box_there way at r = (backs.rect way (rect_at at (rotated_size way (size_of r)))).1

pub box_keeps_size : (way : Direction) (at : Point) (r : Rect) → size_of (box_back way at r) ≡ size_of r
box_keeps_size Right at r = refl
box_keeps_size Left at r = refl
box_keeps_size Down at r = refl
box_keeps_size Up at r = refl

same_point : (p q : Point) → p.x ≡ q.x → p.y ≡ q.y → p ≡ q
same_point p q x y = ap₂ (λ (a b : ℤ). let r : Point = record { x = a; y = b } in r) x y

from_both_ends : (length low size : ℤ) → length -ℤ ((length -ℤ (low +ℤ size)) +ℤ size) ≡ low
from_both_ends length low size = omega (arith, ints)

pub place_there : (way : Direction) (outer : Rect) (s : Size) (q : Point) → rotated_place way (size_of outer) s (place_back way outer s q) ≡ q
place_there Right outer s q = refl
place_there Left outer s q = same_point _ _ (from_both_ends outer.width q.x s.width) refl
place_there Down outer s q = refl
place_there Up outer s q = same_point _ _ (from_both_ends outer.height q.x s.height) refl

point_there : (way : Direction) (by q : Point) → rotated_point way (moved_back way by q) ≡ plus by q
point_there way by q = (backs.point way (plus by q)).1

points_there : (way : Direction) (by : Point) (qs : List Point) → map (rotated_point way) (map (moved_back way by) qs) ≡ map (plus by) qs
points_there way by [] = refl
points_there way by (q ∷ qs) = ap₂ (λ p ps. p ∷ ps) (point_there way by q) (points_there way by qs)

pub section_there : (way : Direction) (by : Point) (s : Section) → IsRotatedSection way by (section_back way by s) s
section_there way by s =
    record { start = point_there way by s.start; bends = points_there way by s.bends; end = point_there way by s.end }
