-- What points, offsets and lengths say along and across a side, in the frame of a direction and in the document.
use Rattle.std.proofs.Common.{◌≡◌, ℤ, pos, neg_ℤ, ◌+ℤ◌, ◌≤ℤ◌, ◌<ℤ◌, refl, sym, ap, ◌∙◌, arith}
use Rattle.std.proofs.lemmas.Int.{ints}
use Rattle.drawing_types.specs.declared.shape.Point.{Point}
use Rattle.drawing_types.specs.declared.shape.Rect.{Rect}
use Rattle.drawing_types.specs.declared.shape.Size.{Size}
use Rattle.drawing_types.specs.declared.shape.Side.{Side}
use Rattle.drawing_types.specs.declared.shape.Side.TheVariants.{North, East, South, West}
use Rattle.elk_doc.specs.declared.document.Direction.{Direction}
use Rattle.elk_doc.specs.declared.document.Direction.TheVariants.{Right, Left, Down, Up}
use Rattle.drawing_types.specs.Shapes.{origin}
use Rattle.elk_doc.specs.Shapes.{rotated}
use Rattle.drawing_types.specs.Shapes.{rect_at, moved_by, half_of}
use Rattle.elk_doc.specs.Sound.{along}
use Rattle.drawing_types.specs.Ranges.{IsWithin}
use Rattle.elk_doc.specs.PortsKept.{across, size_along, side_length, flush, IsOnSide, clockwise, counted}
use Rattle.elk_doc.specs.Places.{middle_of, offset_on}
use Rattle.drawing_laws.specs.Rotating.{rotated_point, rotated_side}
use Rattle.drawing_laws.specs.Frames.{rotated_offset}
use Rattle.port_order.specs.Sides.{is_forward}
use Rattle.working_frame.specs.Rotated.{rotated_size, rotated_place, half_along}
use Rattle.working_frame.specs.Drawing.{plus}
use Rattle.rotated_levels.specs.Outlines.{shifted}

-- the size of a rectangle
abbrev pub size_in : Rect → Size
size_in r = record { width = r.width; height = r.height }

-- places that agree along a side in the frame do so in the document
pub along_back : (way : Direction) (s : Side) (box z : Size) (q g : Point)
    → along (rotated_side way s) (rotated_place way box z q) ≡ along (rotated_side way s) (rotated_place way box z g) → along s q ≡ along s g
along_back Right North box z q g e = e
along_back Right East box z q g e = e
along_back Right South box z q g e = e
along_back Right West box z q g e = e
along_back Left North box z q g e = omega (arith, ints, e)
along_back Left East box z q g e = e
along_back Left South box z q g e = omega (arith, ints, e)
along_back Left West box z q g e = e
along_back Down North box z q g e = e
along_back Down East box z q g e = e
along_back Down South box z q g e = e
along_back Down West box z q g e = e
along_back Up North box z q g e = e
along_back Up East box z q g e = omega (arith, ints, e)
along_back Up South box z q g e = e
along_back Up West box z q g e = omega (arith, ints, e)

-- and so across it
pub across_back : (way : Direction) (s : Side) (box z : Size) (q g : Point)
    → across (rotated_side way s) (rotated_place way box z q) ≡ across (rotated_side way s) (rotated_place way box z g) → across s q ≡ across s g
across_back Right North box z q g e = e
across_back Right East box z q g e = e
across_back Right South box z q g e = e
across_back Right West box z q g e = e
across_back Left North box z q g e = e
across_back Left East box z q g e = omega (arith, ints, e)
across_back Left South box z q g e = e
across_back Left West box z q g e = omega (arith, ints, e)
across_back Down North box z q g e = e
across_back Down East box z q g e = e
across_back Down South box z q g e = e
across_back Down West box z q g e = e
across_back Up North box z q g e = omega (arith, ints, e)
across_back Up East box z q g e = e
across_back Up South box z q g e = omega (arith, ints, e)
across_back Up West box z q g e = e

-- what stands flush outside in the frame does so in the document
pub flush_back : (way : Direction) (s : Side) (r : Rect) (z : Size) (q : Point)
    → across (rotated_side way s) (rotated_place way (size_in r) z q) ≡ flush (rotated_side way s) (rect_at origin (rotated_size way (size_in r))) (rotated_size way z) → across s q ≡ flush s r z
flush_back Right North r z q e = e
flush_back Right East r z q e = e
flush_back Right South r z q e = e
flush_back Right West r z q e = e
flush_back Left North r z q e = e
flush_back Left East r z q e = omega (arith, ints, e)
flush_back Left South r z q e = e
flush_back Left West r z q e = omega (arith, ints, e)
flush_back Down North r z q e = e
flush_back Down East r z q e = e
flush_back Down South r z q e = e
flush_back Down West r z q e = e
flush_back Up North r z q e = omega (arith, ints, e)
flush_back Up East r z q e = e
flush_back Up South r z q e = omega (arith, ints, e)
flush_back Up West r z q e = e

-- the offset of a port's anchor
pub middle_offset : (s : Side) (r : Rect) (q : Point) (z : Size) → offset_on s r (middle_of s (rect_at (moved_by r q) z)) ≡ along s q +ℤ half_of (size_along s z)
middle_offset North r q z = omega (arith, ints)
middle_offset East r q z = omega (arith, ints)
middle_offset South r q z = omega (arith, ints)
middle_offset West r q z = omega (arith, ints)

-- an offset in the frame, from a place there
pub offset_rotated : (way : Direction) (s : Side) (r : Rect) (z : Size) (q : Point)
    → along (rotated_side way s) (rotated_place way (size_in r) z q) +ℤ half_along way (rotated_side way s) (rotated_size way z) ≡ rotated_offset way s r (along s q +ℤ half_of (size_along s z))
offset_rotated Right North r z q = refl
offset_rotated Right East r z q = refl
offset_rotated Right South r z q = refl
offset_rotated Right West r z q = refl
offset_rotated Left North r z q = omega (arith, ints)
offset_rotated Left East r z q = refl
offset_rotated Left South r z q = omega (arith, ints)
offset_rotated Left West r z q = refl
offset_rotated Down North r z q = refl
offset_rotated Down East r z q = refl
offset_rotated Down South r z q = refl
offset_rotated Down West r z q = refl
offset_rotated Up North r z q = refl
offset_rotated Up East r z q = omega (arith, ints)
offset_rotated Up South r z q = refl
offset_rotated Up West r z q = omega (arith, ints)

-- an offset lies on its side in the document where it does so in the frame
pub within_back : (way : Direction) (s : Side) (r : Rect) (x : ℤ)
    → IsWithin (pos 0) (size_along (rotated_side way s) (rotated_size way (size_in r))) (rotated_offset way s r x) → IsWithin (pos 0) (side_length s r) x
within_back Right North r x h = h
within_back Right East r x h = h
within_back Right South r x h = h
within_back Right West r x h = h
within_back Left North r x h = omega (arith, ints, h)
within_back Left East r x h = h
within_back Left South r x h = omega (arith, ints, h)
within_back Left West r x h = h
within_back Down North r x h = h
within_back Down East r x h = h
within_back Down South r x h = h
within_back Down West r x h = h
within_back Up North r x h = h
within_back Up East r x h = omega (arith, ints, h)
within_back Up South r x h = h
within_back Up West r x h = omega (arith, ints, h)

-- a side is as long in the frame
pub length_rotated : (way : Direction) (s : Side) (r : Rect) → size_along (rotated_side way s) (rotated_size way (size_in r)) ≡ side_length s r
length_rotated Right North r = refl
length_rotated Right East r = refl
length_rotated Right South r = refl
length_rotated Right West r = refl
length_rotated Left North r = refl
length_rotated Left East r = refl
length_rotated Left South r = refl
length_rotated Left West r = refl
length_rotated Down North r = refl
length_rotated Down East r = refl
length_rotated Down South r = refl
length_rotated Down West r = refl
length_rotated Up North r = refl
length_rotated Up East r = refl
length_rotated Up South r = refl
length_rotated Up West r = refl

-- a point on a side's line
pub on_side_back : (way : Direction) (s : Side) (r : Rect) (a : Point) → IsOnSide (rotated_side way s) (rotated way r) (rotated_point way a) → IsOnSide s r a
on_side_back Right North r a e = e
on_side_back Right East r a e = e
on_side_back Right South r a e = e
on_side_back Right West r a e = e
on_side_back Left North r a e = omega (arith, ints, e)
on_side_back Left East r a e = omega (arith, ints, e)
on_side_back Left South r a e = omega (arith, ints, e)
on_side_back Left West r a e = omega (arith, ints, e)
on_side_back Down North r a e = e
on_side_back Down East r a e = e
on_side_back Down South r a e = e
on_side_back Down West r a e = e
on_side_back Up North r a e = omega (arith, ints, e)
on_side_back Up East r a e = omega (arith, ints, e)
on_side_back Up South r a e = omega (arith, ints, e)
on_side_back Up West r a e = omega (arith, ints, e)

pub on_side_moved : (by : Point) (s : Side) (r : Rect) (a : Point) → IsOnSide s r a → IsOnSide s (shifted by r) (plus by a)
on_side_moved by North r a e = omega (arith, ints, e)
on_side_moved by East r a e = omega (arith, ints, e)
on_side_moved by South r a e = omega (arith, ints, e)
on_side_moved by West r a e = omega (arith, ints, e)

pub offset_moved : (by : Point) (s : Side) (r : Rect) (a : Point) → offset_on s (shifted by r) (plus by a) ≡ offset_on s r a
offset_moved by North r a = omega (arith, ints)
offset_moved by East r a = omega (arith, ints)
offset_moved by South r a = omega (arith, ints)
offset_moved by West r a = omega (arith, ints)

-- Counted clockwise as the document does, an offset in the frame is the document's and a number that is the same for all
-- offsets of the side.
abbrev IsCounted : Direction → Side → Rect → ℤ → Type 0
IsCounted way s r z = (x : ℤ) → counted (is_forward way (rotated_side way s)) (rotated_offset way s r x) ≡ z +ℤ clockwise s x

counted_from : (way : Direction) (s : Side) (r : Rect) → (z : ℤ) × IsCounted way s r z
counted_from Right North r = (pos 0, λ x. omega (arith, ints))
counted_from Right East r = (pos 0, λ x. omega (arith, ints))
counted_from Right South r = (pos 0, λ x. omega (arith, ints))
counted_from Right West r = (pos 0, λ x. omega (arith, ints))
counted_from Left North r = (neg_ℤ r.width, λ x. omega (arith, ints))
counted_from Left East r = (pos 0, λ x. omega (arith, ints))
counted_from Left South r = (r.width, λ x. omega (arith, ints))
counted_from Left West r = (pos 0, λ x. omega (arith, ints))
counted_from Down North r = (pos 0, λ x. omega (arith, ints))
counted_from Down East r = (pos 0, λ x. omega (arith, ints))
counted_from Down South r = (pos 0, λ x. omega (arith, ints))
counted_from Down West r = (pos 0, λ x. omega (arith, ints))
counted_from Up North r = (pos 0, λ x. omega (arith, ints))
counted_from Up East r = (neg_ℤ r.height, λ x. omega (arith, ints))
counted_from Up South r = (pos 0, λ x. omega (arith, ints))
counted_from Up West r = (r.height, λ x. omega (arith, ints))

pub clockwise_less : (way : Direction) (s : Side) (r : Rect) (x y : ℤ) → clockwise s x <ℤ clockwise s y
    → counted (is_forward way (rotated_side way s)) (rotated_offset way s r x) <ℤ counted (is_forward way (rotated_side way s)) (rotated_offset way s r y)
clockwise_less way s r x y h = let c = counted_from way s r in let a = c.1 x in let b = c.1 y in less_moved _ _ c.0 _ _ a b h
  where
    less_moved : (u w z x y : ℤ) → u ≡ (z +ℤ x) → w ≡ (z +ℤ y) → x <ℤ y → u <ℤ w
    less_moved u w z x y a b h = omega (arith, ints, a, b, h)

pub clockwise_same : (way : Direction) (s : Side) (r : Rect) (x y : ℤ) → clockwise s x ≡ clockwise s y
    → counted (is_forward way (rotated_side way s)) (rotated_offset way s r x) ≡ counted (is_forward way (rotated_side way s)) (rotated_offset way s r y)
clockwise_same way s r x y e = let c = counted_from way s r in c.1 x ∙ ap (λ k. c.0 +ℤ k) e ∙ sym (c.1 y)

pub clockwise_back : (way : Direction) (s : Side) (r : Rect) (x y : ℤ)
    → counted (is_forward way (rotated_side way s)) (rotated_offset way s r x) ≤ℤ counted (is_forward way (rotated_side way s)) (rotated_offset way s r y) → clockwise s x ≤ℤ clockwise s y
clockwise_back way s r x y h = let c = counted_from way s r in let a = c.1 x in let b = c.1 y in no_more _ _ c.0 _ _ a b h
  where
    no_more : (u w z x y : ℤ) → u ≡ (z +ℤ x) → w ≡ (z +ℤ y) → u ≤ℤ w → x ≤ℤ y
    no_more u w z x y a b h = omega (arith, ints, a, b, h)
