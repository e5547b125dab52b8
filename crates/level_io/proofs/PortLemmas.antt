-- A port of a document in the frame of a direction.
use Rattle.std.proofs.Common.{◌≡◌, ◌^◌, Bool, true, false, ℤ, pos, neg_ℤ, ◌+ℤ◌, ◌-ℤ◌, ◌≤ℤ◌, Option, None, Some, cond, arith, refl, ◌∙◌, rules}
use Rattle.std.specs.Prelude.{IsSomeAnd}
use Rattle.std.specs.Option.{option_map}
use Rattle.std.proofs.lemmas.Int.{ints}
use Rattle.drawing_types.specs.declared.shape.Point.{Point}
use Rattle.drawing_types.specs.declared.shape.Size.{Size}
use Rattle.drawing_types.specs.declared.shape.Side.{Side}
use Rattle.drawing_types.specs.declared.shape.Side.TheVariants.{North, East, South, West}
use Rattle.elk_doc.specs.declared.document.Direction.{Direction}
use Rattle.elk_doc.specs.declared.document.Direction.TheVariants.{Right, Left, Down, Up}
use Rattle.elk_doc.specs.declared.document.PortRule.{PortRule}
use Rattle.elk_doc.specs.declared.document.PortRule.TheVariants.{Free, FixedSide, FixedOrder, FixedPos}
use Rattle.elk_doc.specs.PortsKept.{size_along}
use Rattle.drawing_types.specs.Shapes.{half_of}
use Rattle.elk_doc.specs.Sides.{side_by_place, side_from}
use Rattle.elk_doc.specs.Sound.{IsOutside, IsSoundSize, along}
use Rattle.drawing_types.specs.Ranges.{IsPlaceWithin, IsWithin}
use Rattle.elk_doc.proofs.ShapeLaws.{half_of-bounds}
use Rattle.drawing_laws.specs.Rotating.{rotated_side}
use Rattle.port_order.specs.Conditions.{IsSmall}
use Rattle.port_order.specs.Sides.{is_mirrored, side_of_place}
use Rattle.port_order.proofs.RotatedLemmas.{directions_rotate}
use Rattle.level_model.specs.Conditions.{IsNear}
use Rattle.working_frame.specs.Rotated.{half_along, rotated_given, rotated_place, rotated_size}

-- ---- sides

-- the side of a port's place is rotated
pub place_rotated : (way : Direction) (box : Size) (place : Point) (size : Size)
    → side_of_place way (rotated_size way box) (rotated_place way box size place) (rotated_size way size) ≡ rotated_given way (side_by_place box place size)
place_rotated way box place size = framed way box place size ∙ mapped way (side_by_place box place size)
  where
    mapped : (way : Direction) (o : Option Side) → option_map (rotated_side way) o ≡ rotated_given way o
    mapped way None = refl
    mapped way (Some s) = refl

    framed : (way : Direction) (box : Size) (place : Point) (size : Size)
        → side_of_place way (rotated_size way box) (rotated_place way box size place) (rotated_size way size) ≡ option_map (rotated_side way) (side_by_place box place size)
    framed Right box place size = directions_rotate.side Right box place size
    framed Left box place size = directions_rotate.side Left box place size
    framed Down box place size = directions_rotate.side Down box place size
    framed Up box place size = directions_rotate.side Up box place size

-- the given side is rotated, where that of the place is for a leaf
pub from_rotated : (way : Direction) (rule : PortRule) (asked : Option Side) (leaf : Bool) (there here : Option Side) → (leaf ≡ true → there ≡ rotated_given way here)
    → side_from rule (rotated_given way asked) leaf there ≡ rotated_given way (side_from rule asked leaf here)
from_rotated way Free asked leaf there here h = refl
from_rotated way FixedSide asked leaf there here h = refl
from_rotated way FixedOrder asked leaf there here h = refl
from_rotated way FixedPos (Some s) leaf there here h = refl
from_rotated way FixedPos None true there here h = h refl
from_rotated way FixedPos None false there here h = refl

pub given_and : (way : Direction) (o : Option Side) (P Q : Side → Type 0) → ((s : Side) → P s → Q (rotated_side way s)) → IsSomeAnd o P → IsSomeAnd (rotated_given way o) Q
given_and way None P Q f h = absurd (search rules)
given_and way (Some s) P Q f h = f s h

pub outside_rotated : (way : Direction) (box : Size) (place : Point) (size : Size) (s : Side) → IsOutside box place size s
    → IsOutside (rotated_size way box) (rotated_place way box size place) (rotated_size way size) (rotated_side way s)
outside_rotated Right box place size North h = h
outside_rotated Right box place size East h = h
outside_rotated Right box place size South h = h
outside_rotated Right box place size West h = h
outside_rotated Left box place size North h = h
outside_rotated Left box place size East h = omega (arith, ints, h)
outside_rotated Left box place size South h = h
outside_rotated Left box place size West h = omega (arith, ints, h)
outside_rotated Down box place size North h = h
outside_rotated Down box place size East h = h
outside_rotated Down box place size South h = h
outside_rotated Down box place size West h = h
outside_rotated Up box place size North h = omega (arith, ints, h)
outside_rotated Up box place size East h = h
outside_rotated Up box place size South h = omega (arith, ints, h)
outside_rotated Up box place size West h = h

-- ---- lengths

-- a mirrored coordinate is near where the coordinate is at most so far from 0
mirrored_far : (w x s : ℤ) → IsWithin (pos 0) (pos (2 ^ 47)) w → IsWithin (neg_ℤ (pos (2 ^ 53))) (pos (2 ^ 53)) x → IsWithin (pos 0) (pos (2 ^ 20)) s
    → IsWithin (neg_ℤ (pos (2 ^ 54))) (pos (2 ^ 54)) (w -ℤ (x +ℤ s))
mirrored_far w x s hw hx hs = record { above = omega (arith, ints, hw.above, hx.below, hs.below); below = omega (arith, ints, hw.below, hx.above, hs.above) }

straight_far : (x : ℤ) → IsWithin (neg_ℤ (pos (2 ^ 53))) (pos (2 ^ 53)) x → IsWithin (neg_ℤ (pos (2 ^ 54))) (pos (2 ^ 54)) x
straight_far x h = record { above = omega (arith, ints, h.above); below = omega (arith, ints, h.below) }

pub place_far : (way : Direction) (box size : Size) (place : Point) → IsSmall box → IsSoundSize size → IsPlaceWithin (2 ^ 53) place → IsPlaceWithin (2 ^ 54) (rotated_place way box size place)
place_far Right box size place b s h = record { x = straight_far place.x h.x; y = straight_far place.y h.y }
place_far Left box size place b s h = record { x = mirrored_far box.width place.x size.width b.width h.x s.width; y = straight_far place.y h.y }
place_far Down box size place b s h = record { x = straight_far place.y h.y; y = straight_far place.x h.x }
place_far Up box size place b s h = record { x = mirrored_far box.height place.y size.height b.height h.y s.height; y = straight_far place.x h.x }

mirrored_near : (w x s : ℤ) → pos 0 ≤ℤ w → IsWithin (neg_ℤ (pos (2 ^ 20))) (pos (2 ^ 20)) x → IsWithin (pos 0) (pos (2 ^ 20)) s → IsNear w (w -ℤ (x +ℤ s))
mirrored_near w x s hw hx hs = record { above = omega (arith, ints, hw, hx.below, hs.below); below = omega (arith, ints, hw, hx.above, hs.above) }

straight_near : (w x : ℤ) → pos 0 ≤ℤ w → IsWithin (neg_ℤ (pos (2 ^ 20))) (pos (2 ^ 20)) x → IsNear w x
straight_near w x hw hx = record { above = omega (arith, ints, hx.above); below = omega (arith, ints, hw, hx.below) }

-- near along a side of the document is near along it in the frame
pub along_near : (way : Direction) (s : Side) (box size : Size) (place : Point) → IsSmall box → IsSoundSize size → IsWithin (neg_ℤ (pos (2 ^ 20))) (pos (2 ^ 20)) (along s place)
    → IsNear (size_along (rotated_side way s) (rotated_size way box)) (along (rotated_side way s) (rotated_place way box size place))
along_near Right North box size place b z h = straight_near box.width place.x b.width.above h
along_near Right East box size place b z h = straight_near box.height place.y b.height.above h
along_near Right South box size place b z h = straight_near box.width place.x b.width.above h
along_near Right West box size place b z h = straight_near box.height place.y b.height.above h
along_near Left North box size place b z h = mirrored_near box.width place.x size.width b.width.above h z.width
along_near Left East box size place b z h = straight_near box.height place.y b.height.above h
along_near Left South box size place b z h = mirrored_near box.width place.x size.width b.width.above h z.width
along_near Left West box size place b z h = straight_near box.height place.y b.height.above h
along_near Down North box size place b z h = straight_near box.width place.x b.width.above h
along_near Down East box size place b z h = straight_near box.height place.y b.height.above h
along_near Down South box size place b z h = straight_near box.width place.x b.width.above h
along_near Down West box size place b z h = straight_near box.height place.y b.height.above h
along_near Up North box size place b z h = straight_near box.width place.x b.width.above h
along_near Up East box size place b z h = mirrored_near box.height place.y size.height b.height.above h z.height
along_near Up South box size place b z h = straight_near box.width place.x b.width.above h
along_near Up West box size place b z h = mirrored_near box.height place.y size.height b.height.above h z.height

-- the place of a leaf's port is near in both coordinates
pub record IsNearPlace (box : Size) (place : Point) : Type 0 where
  pub x : IsNear box.width place.x
  pub y : IsNear box.height place.y

pub place_near : (way : Direction) (box size : Size) (place : Point) → IsSmall box → IsSoundSize size → IsPlaceWithin (2 ^ 20) place → IsNearPlace (rotated_size way box) (rotated_place way box size place)
place_near Right box size place b z h = record { x = straight_near box.width place.x b.width.above h.x; y = straight_near box.height place.y b.height.above h.y }
place_near Left box size place b z h = record { x = mirrored_near box.width place.x size.width b.width.above h.x z.width; y = straight_near box.height place.y b.height.above h.y }
place_near Down box size place b z h = record { x = straight_near box.height place.y b.height.above h.y; y = straight_near box.width place.x b.width.above h.x }
place_near Up box size place b z h = record { x = mirrored_near box.height place.y size.height b.height.above h.y z.height; y = straight_near box.width place.x b.width.above h.x }

pub near_along : (s : Side) (box : Size) (place : Point) → IsNearPlace box place → IsNear (size_along s box) (along s place)
near_along North box place h = h.x
near_along East box place h = h.y
near_along South box place h = h.x
near_along West box place h = h.y

-- ---- anchors

length_along : (s : Side) (size : Size) → IsSoundSize size → pos 0 ≤ℤ size_along s size
length_along North size h = h.width.above
length_along East size h = h.height.above
length_along South size h = h.width.above
length_along West size h = h.height.above

half_either : (mirrored : Bool) (z : ℤ) → pos 0 ≤ℤ z → IsWithin (pos 0) z (cond mirrored (z -ℤ half_of z) (half_of z))
half_either true z h = let b = half_of-bounds z h in record { above = omega (arith, ints, b.1); below = omega (arith, ints, b.0) }
half_either false z h = let b = half_of-bounds z h in record { above = b.0; below = b.1 }

pub half_within : (way : Direction) (s : Side) (size : Size) → IsSoundSize size → IsWithin (pos 0) (size_along s size) (half_along way s size)
half_within way s size h = half_either (is_mirrored way s) (size_along s size) (length_along s size h)
