-- Ports and anchors stand where their sides ask, and in a fixed order clockwise.
use Rattle.std.proofs.Common.{◌≡◌, ◌<◌, ◌≤◌, ℕ, ℤ, pos, ◌≤ℤ◌, ◌+ℤ◌, ◌-ℤ◌, Bool, true, false, not, cond, List, length, arith, sym, refl, ◌∙◌, subst, inl, inr}
use Rattle.std.proofs.lemmas.Int.{ints}
use Rattle.std.proofs.lemmas.Bool.{cases_lt}
use Rattle.std.specs.Prelude.{Option, None, Some, is_some, IfSome, IsSomeAnd, IsTrue, IsFalse, ◌&&◌}
use Rattle.drawing_types.specs.declared.shape.Point.{Point}
use Rattle.drawing_types.specs.declared.shape.Size.{Size}
use Rattle.drawing_types.specs.declared.shape.Side.{Side}
use Rattle.drawing_types.specs.declared.shape.Side.TheVariants.{North, East, South, West}
use Rattle.elk_doc.specs.declared.document.PortRule.{PortRule}
use Rattle.elk_doc.specs.declared.document.PortRule.TheVariants.{Free, FixedSide, FixedOrder, FixedPos}
use Rattle.drawing_types.specs.Shapes.{origin, no_size}
use Rattle.drawing_types.specs.Shapes.{rect_at}
use Rattle.elk_doc.specs.Sound.{IsOutside, along}
use Rattle.drawing_types.specs.Ranges.{IsWithin}
use Rattle.elk_doc.specs.PortsKept.{size_along, across, flush, pins, counted}
use Rattle.port_order.specs.declared.children.Child.{Child}
use Rattle.port_order.specs.declared.spots.Spot.{Spot}
use Rattle.port_order.specs.Child.{port_at, spot_at, is_pinned, is_pinned_spot}
use Rattle.port_order.specs.Sides.{side_of, side_else, given_side, is_forward}
use Rattle.port_order.specs.Conditions.{IsChild, IsChildPort, IsSmall, IsSpot, AreSpots}
use Rattle.port_order.specs.Places.{HoldsOnce, spread_offset, offset_of, dock_of, outer_face, given_face, face_of, on_side, anchor_at, corner_of}
use Rattle.port_order.specs.Order.{ClockwiseFirst, PortFirst, ComesFirst, IsOrderOfSide, IsSpreadOn}
use Rattle.port_order.specs.Laws.{KeepsPort, IsOutward, PortsStand, KeepsOrder}
use Rattle.port_order.proofs.StrictLemmas.{clockwise_one_way}
use Rattle.port_order.proofs.PlaceLemmas.{place_is, offset_inside, offset_up}

pub along_corner : (side : Side) (face start : ℤ) (size : Size) → along side (corner_of side face start size) ≡ start
along_corner North face start size = refl
along_corner East face start size = refl
along_corner South face start size = refl
along_corner West face start size = refl

pinned_offset : (c : Child) (side : Side) (b : Bool) (port : Option ℕ) (order : List ℕ) (n k : ℕ) → b ≡ true → port ≡ Some k → offset_of c side b port order n ≡ along side (port_at c k).place +ℤ (port_at c k).half
pinned_offset c side b port order n k eb ep = rw (eb, ep) refl

spread_one : (c : Child) (side : Side) (b : Bool) (port : Option ℕ) (order : List ℕ) (n : ℕ) → b ≡ false → offset_of c side b port order n ≡ spread_offset c side order n
spread_one c side b port order n eb = rw eb refl

start_kept : (a h : ℤ) → (a +ℤ h) -ℤ h ≡ a
start_kept a h = omega (arith, ints)

-- a spot's port is pinned where that port is
pinned_spot : (c : Child) (s : Spot) (k : ℕ) (b : Bool) → s.port ≡ Some k → is_pinned c k ≡ b → is_pinned_spot c s ≡ b
pinned_spot c s k b port e = rw port e

across_given : (side : Side) (place : Point) (size : Size) (start : ℤ) → across side (corner_of side (given_face side place size) start size) ≡ across side place
across_given North place size start = refl
across_given East place size start = start_kept place.x size.width
across_given South place size start = start_kept place.y size.height
across_given West place size start = refl

across_flush : (side : Side) (box size : Size) (start : ℤ) → across side (corner_of side (outer_face side box size) start size) ≡ flush side (rect_at origin box) size
across_flush North box size start = refl
across_flush East box size start = start_kept box.width size.width
across_flush South box size start = start_kept box.height size.height
across_flush West box size start = refl

face_given : (c : Child) (side : Side) (k : ℕ) → IsTrue (is_pinned c k && not c.compound) → face_of c side k ≡ given_face side (port_at c k).place (port_at c k).size
face_given c side k e = rw e refl

face_outer : (c : Child) (side : Side) (k : ℕ) → IsFalse (is_pinned c k && not c.compound) → face_of c side k ≡ outer_face side c.size (port_at c k).size
face_outer c side k e = rw e refl

pub dock_inside : (c : Child) (s : Spot) (order : List ℕ) → IsChild c → (IsFalse (is_pinned_spot c s) → HoldsOnce order s.number) → IsFalse (is_pinned_spot c s) → IsWithin (pos 0) (size_along (side_of c s) c.size) (dock_of c s order)
dock_inside c s order child once free =
    subst (λ z. IsWithin (pos 0) (size_along (side_of c s) c.size) z) (sym (spread_one c (side_of c s) (is_pinned_spot c s) s.port order s.number free)) (offset_inside c (side_of c s) order s.number child (once free))

pub port_kept : (c : Child) (s : Spot) (k : ℕ) (order : List ℕ) → IsChild c → s.port ≡ Some k → (IsFalse (is_pinned_spot c s) → HoldsOnce order s.number) → KeepsPort c s k order
port_kept c s k order child port once =
    record {
      along_kept = λ pinned. along_corner (side_of c s) (face_of c (side_of c s) k) (dock_of c s order -ℤ (port_at c k).half) (port_at c k).size
          ∙ (rw (pinned_offset c (side_of c s) (is_pinned_spot c s) s.port order s.number k (pinned_spot c s k true port pinned) port) (start_kept _ _));
      across_kept = λ pinned. subst (λ f. across (side_of c s) (corner_of (side_of c s) f (dock_of c s order -ℤ (port_at c k).half) (port_at c k).size) ≡ across (side_of c s) (port_at c k).place)
          (sym (face_given c (side_of c s) k pinned)) (across_given (side_of c s) (port_at c k).place (port_at c k).size _);
      flush_outside = λ loose. subst (λ f. across (side_of c s) (corner_of (side_of c s) f (dock_of c s order -ℤ (port_at c k).half) (port_at c k).size) ≡ flush (side_of c s) (rect_at origin c.size) (port_at c k).size)
          (sym (face_outer c (side_of c s) k loose)) (across_flush (side_of c s) c.size (port_at c k).size _);
      on_side = λ spread. dock_inside c s order child once (pinned_spot c s k false port spread);
    }

beyond_face : (side : Side) (box size : Size) (offset : ℤ) → IsSmall size → IsOutward side box (on_side side (outer_face side box size) offset)
beyond_face North box size offset h = omega (arith, ints, h.height.above)
beyond_face East box size offset h = omega (arith, ints, h.width.above)
beyond_face South box size offset h = omega (arith, ints, h.height.above)
beyond_face West box size offset h = omega (arith, ints, h.width.above)

beyond_place : (side : Side) (box : Size) (place : Point) (size : Size) (offset : ℤ) → IsOutside box place size side → IsOutward side box (on_side side (given_face side place size) offset)
beyond_place North box place size offset h = h
beyond_place East box place size offset h = h
beyond_place South box place size offset h = h
beyond_place West box place size offset h = h

nothing_small : IsSmall no_size
nothing_small = record { width = record { above = omega (arith, ints); below = omega (arith, ints) }; height = record { above = omega (arith, ints); below = omega (arith, ints) } }

pins_fixed : (rule : PortRule) (leaf asked : Bool) → pins rule leaf asked ≡ true → rule ≡ FixedPos
pins_fixed Free leaf asked h = absurd cc
pins_fixed FixedSide leaf asked h = absurd cc
pins_fixed FixedOrder leaf asked h = absurd cc
pins_fixed FixedPos leaf asked h = refl

-- the side of a port is the one that it is given, if there is one
given_taken : (c : Child) (k : ℕ) (P : Side → Type 0) (g : Option Side) (only_enters : Bool) → IsSomeAnd g P → P (side_else g only_enters)
given_taken c k P (Some side) only_enters h = h
given_taken c k P None only_enters h = absurd h

port_outward : (c : Child) (s : Spot) (k : ℕ) (offset : ℤ) → s.port ≡ Some k → IsChildPort c k → IsOutward (side_of c s) c.size (anchor_at c (side_of c s) (Some k) offset)
port_outward c s k offset port h = step (is_pinned c k) (not c.compound) refl refl
  where
    step : (b l : Bool) → is_pinned c k ≡ b → not c.compound ≡ l → IsOutward (side_of c s) c.size (on_side (side_of c s) (cond (b && l) (given_face (side_of c s) (port_at c k).place (port_at c k).size) (outer_face (side_of c s) c.size (port_at c k).size)) offset)
    step true true eb el = beyond_place (side_of c s) c.size (port_at c k).place (port_at c k).size offset (rw port (given_taken c k (λ side. IsOutside c.size (port_at c k).place (port_at c k).size side) (given_side c k) _ (h.outside (is_leaf c.compound el) (pins_fixed c.rule (not c.compound) (is_some (port_at c k).side) eb))))
      where
        is_leaf : (b : Bool) → not b ≡ true → IsFalse b
        is_leaf true e = absurd cc
        is_leaf false e = refl
    step true false eb el = beyond_face (side_of c s) c.size (port_at c k).size offset h.size
    step false l eb el = beyond_face (side_of c s) c.size (port_at c k).size offset h.size

outward : (c : Child) (s : Spot) (offset : ℤ) → IsChild c → IsSpot c s → IsOutward (side_of c s) c.size (anchor_at c (side_of c s) s.port offset)
outward c s offset child spot = step s.port refl spot.port
  where
    step : (port : Option ℕ) → s.port ≡ port → IfSome port (λ k. k < length c.ports) → IsOutward (side_of c s) c.size (anchor_at c (side_of c s) port offset)
    step (Some k) e h = port_outward c s k offset e (child.ports k h)
    step None e h = beyond_face (side_of c s) c.size no_size offset nothing_small

pub ports_stand : PortsStand
ports_stand = record { port = port_kept; outward = outward }

-- the offset of a spread spot is that of its place
spread_dock : (c : Child) (s : Spot) (side : Side) (order : List ℕ) → IsSpreadOn c side s → dock_of c s order ≡ spread_offset c side order s.number
spread_dock c s side order h = spread_one c (side_of c s) (is_pinned_spot c s) s.port order s.number h.spread ∙ rw h.on_side refl

rotated_le : (forward : Bool) (a b : ℤ) → (forward ≡ true → a ≤ℤ b) → (forward ≡ false → b ≤ℤ a) → counted forward a ≤ℤ counted forward b
rotated_le true a b up down = up refl
rotated_le false a b up down = let h = down refl in omega (arith, ints, h)

module _ (c : Child) (side : Side) (spots : List Spot) (order : List ℕ) (sound : AreSpots c spots) (o : IsOrderOfSide c side spots order) (fixed : c.rule ≡ FixedOrder) where
  abbrev spot : ℕ → Spot
  spot i = spot_at spots i

  -- of two ports the one that stands first comes first, from the top or the left
  first_comes : (i l j k : ℕ) → i < length spots → l < length spots → (hi : HoldsOnce order (spot i).number) (hl : HoldsOnce order (spot l).number) → hi.place < hl.place
      → (spot i).port ≡ Some j → (spot l).port ≡ Some k → PortFirst (is_forward c.direction side) c side j (spot i).number k (spot l).number
  first_comes i l j k bi bl hi hl less pi pl =
      let comes = o.sorted hi.place hl.place i l less hl.inside bi bl (sym hi.there) (sym hl.there) in
      rw (pi, pl) at (subst (λ r. ComesFirst r c side (spot i) (spot l)) fixed comes)

  -- the offset of a spot that stands first is not greater
  up : (i l : ℕ) → IsSpreadOn c side (spot i) → IsSpreadOn c side (spot l) → (hi : HoldsOnce order (spot i).number) (hl : HoldsOnce order (spot l).number) → hi.place ≤ hl.place → dock_of c (spot i) order ≤ℤ dock_of c (spot l) order
  up i l si sl hi hl le =
      rw (spread_dock c (spot i) side order si, spread_dock c (spot l) side order sl)
      (offset_up c side order (spot i).number (spot l).number hl (rw (place_is order (spot i).number hi, place_is order (spot l).number hl) le))

  kept : (i l j k : ℕ) → i < length spots → l < length spots → IsSpreadOn c side (spot i) → IsSpreadOn c side (spot l)
      → (spot i).port ≡ Some j → (spot l).port ≡ Some k → ClockwiseFirst c side j (spot i).number k (spot l).number
      → counted (is_forward c.direction side) (dock_of c (spot i) order) ≤ℤ counted (is_forward c.direction side) (dock_of c (spot l) order)
  kept i l j k bi bl si sl pi pl first =
      let hi = o.once i bi si in
      let hl = o.once l bl sl in
      rotated_le (is_forward c.direction side) _ _ (λ e. up i l si sl hi hl (forward e hi hl)) (λ e. up l i sl si hl hi (backward e hi hl))
    where
      forward : is_forward c.direction side ≡ true → (hi : HoldsOnce order (spot i).number) (hl : HoldsOnce order (spot l).number) → hi.place ≤ hl.place
      forward e hi hl =
          elim (cases_lt hl.place hi.place) [
            | inl less ↦ absurd (clockwise_one_way c side j (spot i).number k (spot l).number first (rw e at (first_comes l i k j bl bi hl hi less pl pi)))
            | inr le ↦ le
          ]

      backward : is_forward c.direction side ≡ false → (hi : HoldsOnce order (spot i).number) (hl : HoldsOnce order (spot l).number) → hl.place ≤ hi.place
      backward e hi hl =
          elim (cases_lt hi.place hl.place) [
            | inl less ↦ absurd (clockwise_one_way c side j (spot i).number k (spot l).number first (rw e at (first_comes i l j k bi bl hi hl less pi pl)))
            | inr le ↦ le
          ]

pub order_kept : KeepsOrder
order_kept c side spots order i l j k sound o fixed bi bl si sl pi pl first = kept c side spots order sound o fixed i l j k bi bl si sl pi pl first
