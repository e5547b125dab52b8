-- The place of a number in a list, and spread offsets by it.
use Rattle.std.proofs.Common.{◌≡◌, ◌<◌, ◌≤◌, ◌+◌, ◌-◌, ◌*◌, ◌/◌, ℕ, zero, suc, ℤ, pos, negsuc, ◌≤ℤ◌, ◌<ℤ◌, ◌-ℤ◌, Bool, true, false, List, [], ◌∷◌, length, arith, sym, refl, ◌∙◌, ap, inl, inr}
use Rattle.std.proofs.lemmas.Int.{ints}
use Rattle.std.proofs.lemmas.Bool.{cases_order, eq-eqb, ne_eqb}
use Rattle.std.proofs.Math.Nat.{div-le_of_le-mul, mul-le-mul_left}
use Rattle.std.specs.Prelude.{slice_index, ◌≢◌}
use Rattle.drawing_types.specs.declared.shape.Side.{Side}
use Rattle.drawing_types.specs.Ranges.{IsWithin}
use Rattle.elk_doc.specs.PortsKept.{size_along}
use Rattle.port_order.specs.declared.children.Child.{Child}
use Rattle.port_order.specs.Conditions.{IsChild}
use Rattle.port_order.specs.Sides.{is_mirrored}
use Rattle.port_order.specs.Places.{HoldsOnce, place_in, spread_at, rotated_spread, spread_offset}
use Rattle.port_order.specs.Laws.{OffsetsRise}
use Rattle.port_order.proofs.ChildLemmas.{size_along_small}
use Rattle.port_order.proofs.SpreadLemmas.{spread_rises, spread_up}

place_first : (order : List ℕ) (n i : ℕ) → i < length order → slice_index order i ≡ n → ((j : ℕ) → j < length order → slice_index order j ≡ n → j ≡ i) → place_in order n ≡ i
place_first [] n i h e alone = absurd (omega (arith, h))
place_first (m ∷ ms) n zero h e alone = rw (eq-eqb m n e) refl
place_first (m ∷ ms) n (suc i) h e alone =
    rw (ne_eqb m n (λ same. let first = alone 0 (omega arith) same in absurd (omega (arith, first))))
    (let rest = place_first ms n i (omega (arith, h)) e (λ j hj ej. let next = alone (suc j) (omega (arith, hj)) ej in omega (arith, next)) in omega (arith, rest))

pub place_is : (order : List ℕ) (n : ℕ) (h : HoldsOnce order n) → place_in order n ≡ h.place
place_is order n h = place_first order n h.place h.inside h.there h.alone

pub place_inside : (order : List ℕ) (n : ℕ) → HoldsOnce order n → place_in order n < length order
place_inside order n h = rw (place_is order n h) h.inside

pub places_differ : (order : List ℕ) (m n : ℕ) → HoldsOnce order m → HoldsOnce order n → m ≢ n → place_in order m ≢ place_in order n
places_differ order m n hm hn differ e =
    differ (sym hm.there ∙ ap (slice_index order) (sym (place_is order m hm) ∙ e ∙ place_is order n hn) ∙ hn.there)

spread_inside : (len : ℤ) (k i : ℕ) → pos 0 ≤ℤ len → i < k → IsWithin (pos 0) len (spread_at len k i)
spread_inside (pos len) k i h less =
    let most : (len * (i + 1)) / (k + 1) ≤ len = div-le_of_le-mul (k + 1) (omega (arith, mul-le-mul_left {m = i + 1} {n = k + 1} len (omega (arith, less)))) in
    record { above = omega (arith, ints); below = omega (arith, ints, most) }
spread_inside (negsuc len) k i h less = absurd (omega (arith, ints, h))

less_within : (len z : ℤ) → IsWithin (pos 0) len z → IsWithin (pos 0) len (len -ℤ z)
less_within len z h = record { above = omega (arith, ints, h.above, h.below); below = omega (arith, ints, h.above, h.below) }

rotated_inside : (b : Bool) (len : ℤ) (k j : ℕ) → pos 0 ≤ℤ len → j < k → IsWithin (pos 0) len (rotated_spread b len k j)
rotated_inside true len k j h less = less_within len _ (spread_inside len k (k - (j + 1)) h (omega (arith, less)))
rotated_inside false len k j h less = spread_inside len k j h less

rotated_back : (len a b : ℤ) → a ≤ℤ b → (len -ℤ b) ≤ℤ (len -ℤ a)
rotated_back len a b h = omega (arith, ints, h)

rotated_back_less : (len a b : ℤ) → a <ℤ b → (len -ℤ b) <ℤ (len -ℤ a)
rotated_back_less len a b h = omega (arith, ints, h)

rotated_up : (b : Bool) (len : ℤ) (k i j : ℕ) → i ≤ j → j < k → rotated_spread b len k i ≤ℤ rotated_spread b len k j
rotated_up true len k i j h less = rotated_back len _ _ (spread_up len k (k - (j + 1)) (k - (i + 1)) (omega (arith, h, less)))
rotated_up false len k i j h less = spread_up len k i j h

rotated_rises : (b : Bool) (len : ℤ) (k i j : ℕ) → pos (k + 1) ≤ℤ len → i < j → j < k → rotated_spread b len k i <ℤ rotated_spread b len k j
rotated_rises true len k i j long h less = rotated_back_less len _ _ (spread_rises len k (k - (j + 1)) (k - (i + 1)) long (omega (arith, h, less)))
rotated_rises false len k i j long h less = spread_rises len k i j long h

pub offset_inside : (c : Child) (side : Side) (order : List ℕ) (n : ℕ) → IsChild c → HoldsOnce order n → IsWithin (pos 0) (size_along side c.size) (spread_offset c side order n)
offset_inside c side order n child h = rotated_inside (is_mirrored c.direction side) (size_along side c.size) (length order) (place_in order n) (size_along_small side c.size child.size).above (place_inside order n h)

pub offset_up : (c : Child) (side : Side) (order : List ℕ) (m n : ℕ) → HoldsOnce order n → place_in order m ≤ place_in order n → spread_offset c side order m ≤ℤ spread_offset c side order n
offset_up c side order m n h up = rotated_up (is_mirrored c.direction side) (size_along side c.size) (length order) (place_in order m) (place_in order n) up (place_inside order n h)

offsets_apart : (c : Child) (side : Side) (order : List ℕ) (m n : ℕ) → HoldsOnce order m → HoldsOnce order n → m ≢ n → pos (length order) <ℤ size_along side c.size → spread_offset c side order m ≢ spread_offset c side order n
offsets_apart c side order m n hm hn differ long e =
    elim (cases_order (place_in order m) (place_in order n)) [
      | inl same ↦ places_differ order m n hm hn differ same
      | inr (inl less) ↦ clash _ _ (rotated_rises (is_mirrored c.direction side) (size_along side c.size) (length order) (place_in order m) (place_in order n) enough less (place_inside order n hn)) e
      | inr (inr less) ↦ clash _ _ (rotated_rises (is_mirrored c.direction side) (size_along side c.size) (length order) (place_in order n) (place_in order m) enough less (place_inside order m hm)) (sym e)
    ]
  where
    enough : pos (length order + 1) ≤ℤ size_along side c.size
    enough = omega (arith, ints, long)

    clash : (a b : ℤ) → a <ℤ b → a ≡ b → ⊥
    clash a b h e = absurd (omega (arith, ints, h, e))

pub offsets_rise : OffsetsRise
offsets_rise = record { inside = offset_inside; rising = λ c side order m n hm hn up. offset_up c side order m n hn up; apart = offsets_apart }
