-- Outlines of a level are small enough to be packed, and the rows leave room for moving.
use Rattle.std.proofs.Common.{◌≡◌, ⊎_elim, ℕ, zero, suc, ◌+◌, ◌*◌, ◌-◌, ◌<◌, ◌≤◌, ◌^◌, List, map, length, ℤ, pos, neg_ℤ, ◌+ℤ◌, ◌-ℤ◌, ◌≤ℤ◌, sym, ap, ◌∙◌, subst, arith, w64, FitsSigned}
use Rattle.std.proofs.lemmas.Bool.{cases_lt}
use Rattle.std.proofs.lemmas.Int.{ints}
use Rattle.std.proofs.lemmas.List.{get_or-map, length-map}
use Rattle.drawing_types.specs.declared.shape.Point.{Point}
use Rattle.drawing_types.specs.declared.shape.Rect.{Rect}
use Rattle.drawing_types.specs.declared.shape.Size.{Size}
use Rattle.elk_doc.specs.declared.document.Direction.{Direction}
use Rattle.elk_doc.specs.declared.document.Direction.TheVariants.{Right, Left, Down, Up}
use Rattle.elk_doc.specs.Drawing.{no_rect}
use Rattle.elk_doc.specs.Sound.{IsDistance}
use Rattle.drawing_types.specs.Ranges.{IsPlaceWithin, IsWithin}
use Rattle.working_frame.specs.Ranges.{IsFar}
use Rattle.working_frame.specs.Rotated.{rotated_place}
use Rattle.dock_table.specs.Narrow.{IsNearRect}
use Rattle.box_pack.specs.declared.packing.Rows.{Rows}
use Rattle.box_pack.specs.Boxes.{AreSizes, IsGreatest, IsSize, point_at, right_of, bottom_of, size_at}
use Rattle.box_pack.specs.Packed.{AreRows}
use Rattle.box_pack.specs.Spaced.{AreSolid, gapped, height_at, width_at}
use Rattle.box_pack.proofs.SpacedLemmas.{rows_are_spaced}
use Rattle.level_split.specs.Outlines.{outline_size, rect_in}
use Rattle.level_split.specs.Placing.{AreRoomy, IsBoxAt, IsNearSize, IsRoomyPlace}

-- ---- sizes

size_small : (way : Direction) (r : Rect) → pos 0 ≤ℤ r.width → r.width ≤ℤ pos (2 ^ 33 + 2 ^ 47) → pos 0 ≤ℤ r.height → r.height ≤ℤ pos (2 ^ 33 + 2 ^ 47) → IsSize (outline_size way r)
size_small Right r a b c d = (a, omega (arith, ints, b), c, omega (arith, ints, d))
size_small Left r a b c d = (a, omega (arith, ints, b), c, omega (arith, ints, d))
size_small Down r a b c d = (c, omega (arith, ints, d), a, omega (arith, ints, b))
size_small Up r a b c d = (c, omega (arith, ints, d), a, omega (arith, ints, b))

-- near outlines that are no larger than that can be packed
pub sizes_small : (way : Direction) (outlines : List Rect) → ((i : ℕ) → i < length outlines → IsNearRect (rect_in outlines i))
    → ((i : ℕ) → i < length outlines → (rect_in outlines i).width ≤ℤ pos (2 ^ 33 + 2 ^ 47)) → ((i : ℕ) → i < length outlines → (rect_in outlines i).height ≤ℤ pos (2 ^ 33 + 2 ^ 47))
    → AreSizes (map (outline_size way) outlines)
sizes_small way outlines near wide high i z h =
    let many = length-map outlines (outline_size way) in
    let there : i < length outlines = omega (arith, h, many) in
    subst IsSize (sym (get_or-map (outline_size way) outlines i no_rect z there))
    (size_small way (rect_in outlines i) (near i there).across.solid (wide i there) (near i there).along.solid (high i there))

-- ---- rows

gapped_small : (gap : ℤ) (value : ℕ → ℤ) (n : ℕ) → gap ≤ℤ pos (2 ^ 20) → ((i : ℕ) → i < n → value i ≤ℤ pos (2 ^ 48 - 2 ^ 20)) → gapped gap value n ≤ℤ pos (n * 2 ^ 48)
unfolding gapped
gapped_small gap value zero room small = omega (arith, ints)
gapped_small gap value (suc n) room small =
    let rest = gapped_small gap value n room (λ i less. small i (omega (arith, less))) in
    let here = small n (omega arith) in
    omega (arith, ints, rest, here, room)

module _ (sizes : List Size) (gap limit : ℤ) (rows : Rows) (few : length sizes ≤ 2048) (are : (i : ℕ) → i < length sizes → IsSize (size_at sizes i)) (room : IsDistance gap) (packed : AreRows sizes gap limit rows) where
  solid : AreSolid sizes
  solid = record { width = λ i h. (are i h).0; height = λ i h. (are i h).2 }

  gap_least : pos 0 ≤ℤ gap
  gap_least = let low = room.above in omega (arith, ints, low)

  wide_most : rows.extent.width ≤ℤ pos (2 ^ 59)
  wide_most =
      let most = (rows_are_spaced sizes gap limit rows solid gap_least packed).width in
      let small = gapped_small gap (width_at sizes) (length sizes) room.below (λ i h. (are i h).1) in
      omega (arith, ints, most, small, few)

  high_most : rows.extent.height ≤ℤ pos (2 ^ 59)
  high_most =
      let most = (rows_are_spaced sizes gap limit rows solid gap_least packed).height in
      let small = gapped_small gap (height_at sizes) (length sizes) room.below (λ i h. (are i h).3) in
      omega (arith, ints, most, small, few)

  place_right : (i : ℕ) → i < length sizes → pos 0 ≤ℤ (point_at rows.at i).x
  place_right = (rows_are_spaced sizes gap limit rows solid gap_least packed).right

  place_down : (i : ℕ) → i < length sizes → pos 0 ≤ℤ (point_at rows.at i).y
  place_down = (rows_are_spaced sizes gap limit rows solid gap_least packed).down

  greatest_least : (value : ℕ → ℤ) (z : ℤ) → IsGreatest (length sizes) value z → ((i : ℕ) → i < length sizes → pos 0 ≤ℤ value i) → pos 0 ≤ℤ z
  greatest_least value z greatest least =
      ⊎_elim
      (λ (some : 0 < length sizes). let (i, there, is) = greatest.some some in let low = least i there in omega (arith, ints, low, is))
      (λ (none : length sizes ≤ 0). let is = greatest.none (omega (arith, none)) in omega (arith, ints, is))
      (cases_lt 0 (length sizes))

  wide_least : pos 0 ≤ℤ rows.extent.width
  wide_least = greatest_least (right_of sizes rows.at) rows.extent.width packed.extent.width (λ i h. let x = place_right i h in let w = (are i h).0 in omega (arith, ints, x, w))

  high_least : pos 0 ≤ℤ rows.extent.height
  high_least = greatest_least (bottom_of sizes rows.at) rows.extent.height packed.extent.height (λ i h. let y = place_down i h in let w = (are i h).2 in omega (arith, ints, y, w))

  place_roomy : (i : ℕ) → i < length sizes → IsRoomyPlace (point_at rows.at i)
  place_roomy i h =
      let x = place_right i h in
      let y = place_down i h in
      let w = (are i h).0 in
      let t = (are i h).2 in
      let right = packed.extent.width.all i h in
      let bottom = packed.extent.height.all i h in
      let wide = wide_most in
      let high = high_most in
      record { x = record { above = x; below = omega (arith, ints, right, wide, w) }; y = record { above = y; below = omega (arith, ints, bottom, high, t) } }

  pub roomy : (outlines : List Rect) → length sizes ≡ length outlines → ((i : ℕ) → i < length outlines → IsNearRect (rect_in outlines i)) → AreRoomy rows outlines
  roomy outlines same near =
      let many = packed.places.count in
      record {
        as_many = omega (arith, many, same);
        extent = record { width = record { above = wide_least; below = wide_most }; height = record { above = high_least; below = high_most } };
        places = λ i h. place_roomy i (omega (arith, h, same));
        near = near;
      }

-- ---- boxes

size_near_by : (a w : ℤ) → neg_ℤ (pos (2 ^ 48 - 2 ^ 41)) ≤ℤ a → (a +ℤ w) ≤ℤ pos (2 ^ 48 - 2 ^ 41) → w ≤ℤ pos (2 ^ 49)
size_near_by a w low high = omega (arith, ints, low, high)

pub size_near : (way : Direction) (r : Rect) → IsNearRect r → IsNearSize (outline_size way r)
size_near way r near =
    let wide : IsWithin (pos 0) (pos (2 ^ 49)) r.width = record { above = near.across.solid; below = size_near_by r.x r.width near.across.low_end.above near.across.high_end.below } in
    let high : IsWithin (pos 0) (pos (2 ^ 49)) r.height = record { above = near.along.solid; below = size_near_by r.y r.height near.along.low_end.above near.along.high_end.below } in
    by way wide high
  where
    by : (way : Direction) → IsWithin (pos 0) (pos (2 ^ 49)) r.width → IsWithin (pos 0) (pos (2 ^ 49)) r.height → IsNearSize (outline_size way r)
    by Right w h = record { width = w; height = h }
    by Left w h = record { width = w; height = h }
    by Down w h = record { width = h; height = w }
    by Up w h = record { width = h; height = w }

back : (a b c : ℤ) → c ≡ a -ℤ b → c +ℤ b ≡ a
back a b c e = omega (arith, ints, e)

far_by : (a b c : ℤ) → c ≡ a -ℤ b → IsWithin (neg_ℤ (pos (2 ^ 59 + 2 ^ 50))) (pos (2 ^ 59 + 2 ^ 50)) a → IsWithin (neg_ℤ (pos (2 ^ 48 - 2 ^ 41))) (pos (2 ^ 48 - 2 ^ 41)) b → IsFar c
far_by a b c e p q =
    let p0 = p.above in
    let p1 = p.below in
    let q0 = q.above in
    let q1 = q.below in
    record { above = omega (arith, ints, e, p0, q1); below = omega (arith, ints, e, p1, q0) }

pub place_fits : (a : ℤ) → IsWithin (neg_ℤ (pos (2 ^ 59 + 2 ^ 50))) (pos (2 ^ 59 + 2 ^ 50)) a → FitsSigned w64 a
place_fits a h = let low = h.above in let high = h.below in omega (arith, ints, low, high)

pub near_fits : (a : ℤ) → IsWithin (neg_ℤ (pos (2 ^ 48 - 2 ^ 41))) (pos (2 ^ 48 - 2 ^ 41)) a → FitsSigned w64 a
near_fits a h = let low = h.above in let high = h.below in omega (arith, ints, low, high)

pub distance_fits : (a : ℤ) → IsDistance a → FitsSigned w64 a
distance_fits a h = let low = h.above in let high = h.below in omega (arith, ints, low, high)

same_point : (a b x y : ℤ) → a ≡ x → b ≡ y → (let l : Point = record { x = a; y = b } in let r : Point = record { x = x; y = y } in l ≡ r)
same_point a b x y p q = cc

-- a box whose outline is put at a place
pub box_stands : (way : Direction) (extent : Size) (place : Point) (r : Rect) (size : Size) (rotated : Point) (x y : ℤ) → IsNearRect r → size ≡ outline_size way r → rotated ≡ rotated_place way extent size place
    → IsPlaceWithin (2 ^ 59 + 2 ^ 50) rotated → x ≡ rotated.x -ℤ r.x → y ≡ rotated.y -ℤ r.y → IsBoxAt way extent place r (record { x = x; y = y })
box_stands way extent place r size rotated x y near outline at far p q =
    let whole : rotated ≡ rotated_place way extent (outline_size way r) place = at ∙ ap (λ s. rotated_place way extent s place) outline in
    record {
      stands = same_point _ _ _ _ (back rotated.x r.x x p) (back rotated.y r.y y q) ∙ whole;
      far = record { x = far_by rotated.x r.x x p far.x near.across.low_end; y = far_by rotated.y r.y y q far.y near.along.low_end };
    }
