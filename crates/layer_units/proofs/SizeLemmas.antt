-- The outline of a child is not much higher than its box and its ports together.
use Rattle.std.proofs.Common.{◌≡◌, ℕ, zero, suc, ◌+◌, ◌<◌, ◌≤◌, ◌^◌, ℤ, pos, neg_ℤ, ◌+ℤ◌, ◌-ℤ◌, ◌≤ℤ◌, List, [], ◌∷◌, length, map, get_or, Bool, true, false, not, cond, ◌&&◌, refl, sym, subst, arith}
use Rattle.std.proofs.lemmas.Int.{ints, clamps}
use Rattle.std.specs.Prelude.{Option, None, Some}
use Rattle.std.specs.Int.{int_min, int_max}
use Rattle.std.specs.List.{range_with_len}
use Rattle.drawing_types.specs.declared.shape.Size.{Size}
use Rattle.drawing_types.specs.declared.shape.Side.{Side}
use Rattle.drawing_types.specs.declared.shape.Side.TheVariants.{North, East, South, West}
use Rattle.elk_doc.specs.PortsKept.{size_along}
use Rattle.drawing_types.specs.Shapes.{hull_size}
use Rattle.elk_doc.specs.Sound.{along}
use Rattle.drawing_types.specs.Ranges.{IsWithin}
use Rattle.port_order.specs.declared.children.Child.{Child}
use Rattle.port_order.specs.declared.children.ChildPort.{ChildPort}
use Rattle.port_order.specs.Child.{is_pinned, no_port, port_at}
use Rattle.port_order.specs.Places.{given_face, offset_of, outer_face, place_of_port}
use Rattle.port_order.specs.Sides.{given_side, side_else, side_of}
use Rattle.port_order.proofs.KeptLemmas.{dock_inside}
use Rattle.self_loops.specs.Loops.{is_upright}
use Rattle.level_model.specs.Conditions.{IsLevel, IsLevelChild, IsNear, sizes_of, sum_of_ints}
use Rattle.level_model.specs.Level.{PlainLevel, PlainPlan, Orders, child_at, dock_of_spot, outline, outline_from, port_place, port_spot}
use Rattle.level_model.specs.Units.{AreOrders}
use Rattle.level_model.proofs.SpotLemmas.{held_once, port_spot_there}
use Rattle.dock_table.proofs.NarrowLemmas.{pinned_side}

-- the heights of a child and its ports together
abbrev pub heights_of : Child → ℤ
heights_of c = sum_of_ints (map (λ (s : Size). s.height) (sizes_of c))

abbrev ports_high : List ChildPort → ℤ
ports_high ps = sum_of_ints (map (λ (s : Size). s.height) (map (λ (q : ChildPort). q.size) ps))

least_ports : (ps : List ChildPort) → ((k : ℕ) → k < length ps → pos 0 ≤ℤ (get_or ps k no_port).size.height) → pos 0 ≤ℤ ports_high ps
least_ports [] h = omega (arith, ints)
least_ports (p ∷ ps) h =
    let here = h 0 (omega arith) in
    let rest = least_ports ps (λ k less. h (suc k) (omega (arith, less))) in
    omega (arith, ints, here, rest)

most_port : (ps : List ChildPort) (k : ℕ) → ((k : ℕ) → k < length ps → pos 0 ≤ℤ (get_or ps k no_port).size.height) → k < length ps → (get_or ps k no_port).size.height ≤ℤ ports_high ps
most_port [] k h less = absurd (omega (arith, less))
most_port (p ∷ ps) zero h less = let rest = least_ports ps (λ k l. h (suc k) (omega (arith, l))) in omega (arith, ints, rest)
most_port (p ∷ ps) (suc k) h less =
    let here = h 0 (omega arith) in
    let rest = most_port ps k (λ j l. h (suc j) (omega (arith, l))) (omega (arith, less)) in
    omega (arith, ints, here, rest)

-- a span that lies so near 0
pub record IsSpan (w low size : ℤ) : Type 0 where
  pub low_end : pos 0 ≤ℤ (low +ℤ w)
  pub high_end : (low +ℤ size) ≤ℤ w

least_of : (w a b : ℤ) → pos 0 ≤ℤ (a +ℤ w) → pos 0 ≤ℤ (b +ℤ w) → pos 0 ≤ℤ (int_min a b +ℤ w)
least_of w a b h k = omega (arith, ints, clamps, h, k)

most_of : (w a b : ℤ) → a ≤ℤ w → b ≤ℤ w → int_max a b ≤ℤ w
most_of w a b h k = omega (arith, ints, clamps, h, k)

back : (a b : ℤ) → a +ℤ (b -ℤ a) ≡ b
back a b = omega (arith, ints)

hull_span : (w a s b t : ℤ) → IsSpan w a s → IsSpan w b t → IsSpan w (int_min a b) (hull_size a s b t)
hull_span w a s b t x y =
    record {
      low_end = least_of w a b x.low_end y.low_end;
      high_end = rw (back (int_min a b) (int_max (a +ℤ s) (b +ℤ t))) (most_of w (a +ℤ s) (b +ℤ t) x.high_end y.high_end);
    }

box_span : (w h : ℤ) → pos 0 ≤ℤ w → h ≤ℤ w → IsSpan w (pos 0) h
box_span w h least most = record { low_end = omega (arith, ints, least); high_end = omega (arith, ints, most) }

pub span_high : (w low size : ℤ) → IsSpan w low size → size ≤ℤ (w +ℤ w)
span_high w low size h = let a = h.low_end in let b = h.high_end in omega (arith, ints, a, b)

-- a port that lies near its box, or flush outside it
near_span : (w y box h : ℤ) → IsNear box y → pos 0 ≤ℤ h → pos 0 ≤ℤ box → (box +ℤ h +ℤ pos (2 ^ 21)) ≤ℤ w → IsSpan w y h
near_span w y box h near least solid room =
    let a = near.above in
    let b = near.below in
    record { low_end = omega (arith, ints, a, least, solid, room); high_end = omega (arith, ints, b, room) }

above_span : (w box h : ℤ) → pos 0 ≤ℤ h → pos 0 ≤ℤ box → (box +ℤ h +ℤ pos (2 ^ 21)) ≤ℤ w → IsSpan w (neg_ℤ h) h
above_span w box h least solid room = record { low_end = omega (arith, ints, least, solid, room); high_end = omega (arith, ints, least, solid, room) }

below_span : (w box h : ℤ) → pos 0 ≤ℤ h → pos 0 ≤ℤ box → (box +ℤ h +ℤ pos (2 ^ 21)) ≤ℤ w → IsSpan w ((box +ℤ h) -ℤ h) h
below_span w box h least solid room = record { low_end = omega (arith, ints, least, solid, room); high_end = omega (arith, ints, room) }

face_back : (y h : ℤ) → y ≡ (y +ℤ h) -ℤ h
face_back y h = omega (arith, ints)

-- along its side a port begins before its anchor
spread_span : (w offset half box h : ℤ) → IsWithin (pos 0) box offset → IsWithin (pos 0) h half → pos 0 ≤ℤ h → pos 0 ≤ℤ box → (box +ℤ h +ℤ pos (2 ^ 21)) ≤ℤ w → IsSpan w (offset -ℤ half) h
spread_span w offset half box h o m least solid room =
    let a = o.above in
    let b = o.below in
    let c = m.above in
    let d = m.below in
    record { low_end = omega (arith, ints, a, d, solid, room); high_end = omega (arith, ints, b, c, room) }

level_along : (side : Side) (s : Size) → is_upright side ≡ false → size_along side s ≡ s.height
level_along North s h = absurd cc
level_along East s h = refl
level_along South s h = absurd cc
level_along West s h = refl

level_given : (given : Option Side) (b : Bool) → is_upright (side_else given b) ≡ false → is_upright (side_else given false) ≡ false
level_given None b h = refl
level_given (Some s) b h = h

second_false : (a b : Bool) → (a && not b) ≡ true → b ≡ false
second_false true true h = absurd cc
second_false false true h = absurd cc
second_false a false h = refl

-- a port's place, by the face of its side where that is north or south
face_north : (c : Child) (k : ℕ) (w : ℤ) (b : Bool) → IsLevelChild c → k < length c.ports → (b ≡ true → c.compound ≡ false) → (c.size.height +ℤ (port_at c k).size.height +ℤ pos (2 ^ 21)) ≤ℤ w
    → IsSpan w (cond b (given_face North (port_at c k).place (port_at c k).size) (outer_face North c.size (port_at c k).size)) (port_at c k).size.height
face_north c k w true is less leaf room = near_span w (port_at c k).place.y c.size.height (port_at c k).size.height ((is.near k less).leaf_y (leaf refl)) (is.sound.ports k less).size.height.above is.sound.size.height.above room
face_north c k w false is less leaf room = above_span w c.size.height (port_at c k).size.height (is.sound.ports k less).size.height.above is.sound.size.height.above room

face_south : (c : Child) (k : ℕ) (w : ℤ) (b : Bool) → IsLevelChild c → k < length c.ports → (b ≡ true → c.compound ≡ false) → (c.size.height +ℤ (port_at c k).size.height +ℤ pos (2 ^ 21)) ≤ℤ w
    → IsSpan w (cond b (given_face South (port_at c k).place (port_at c k).size) (outer_face South c.size (port_at c k).size) -ℤ (port_at c k).size.height) (port_at c k).size.height
face_south c k w true is less leaf room =
    subst (λ y. IsSpan w y (port_at c k).size.height) (face_back (port_at c k).place.y (port_at c k).size.height)
    (near_span w (port_at c k).place.y c.size.height (port_at c k).size.height ((is.near k less).leaf_y (leaf refl)) (is.sound.ports k less).size.height.above is.sound.size.height.above room)
face_south c k w false is less leaf room = below_span w c.size.height (port_at c k).size.height (is.sound.ports k less).size.height.above is.sound.size.height.above room

port_span : (c : Child) (side : Side) (k : ℕ) (offset w : ℤ) → IsLevelChild c → k < length c.ports → (c.size.height +ℤ (port_at c k).size.height +ℤ pos (2 ^ 21)) ≤ℤ w
    → (is_upright side ≡ false → IsSpan w (offset -ℤ (port_at c k).half) (port_at c k).size.height)
    → IsSpan w (place_of_port c side k offset).y (port_at c k).size.height
port_span c North k offset w is less room beside = face_north c k w (is_pinned c k && not c.compound) is less (second_false (is_pinned c k) c.compound) room
port_span c East k offset w is less room beside = beside refl
port_span c South k offset w is less room beside = face_south c k w (is_pinned c k && not c.compound) is less (second_false (is_pinned c k) c.compound) room
port_span c West k offset w is less room beside = beside refl

module _ (l : PlainLevel) (p : PlainPlan) (o : Orders) (level : IsLevel l) (orders : AreOrders l p o) where
  pub room_of_port : (c k : ℕ) → c < length l.children → k < length (child_at l c).ports → ((child_at l c).size.height +ℤ (port_at (child_at l c) k).size.height +ℤ pos (2 ^ 21)) ≤ℤ (heights_of (child_at l c) +ℤ pos (2 ^ 21))
  room_of_port c k h less =
      let most = most_port (child_at l c).ports k (λ j inside. ((level.children c h).sound.ports j inside).size.height.above) less in
      sum_more (child_at l c).size.height (port_at (child_at l c) k).size.height (ports_high (child_at l c).ports) most
    where
      sum_more : (a b s : ℤ) → b ≤ℤ s → (a +ℤ b +ℤ pos (2 ^ 21)) ≤ℤ ((a +ℤ s) +ℤ pos (2 ^ 21))
      sum_more a b s h = omega (arith, ints, h)

  box_room : (c : ℕ) → c < length l.children → (pos 0 ≤ℤ (heights_of (child_at l c) +ℤ pos (2 ^ 21))) × ((child_at l c).size.height ≤ℤ (heights_of (child_at l c) +ℤ pos (2 ^ 21)))
  box_room c h =
      sum_box (child_at l c).size.height (ports_high (child_at l c).ports) (level.children c h).sound.size.height.above (least_ports (child_at l c).ports (λ j inside. ((level.children c h).sound.ports j inside).size.height.above))
    where
      sum_box : (a s : ℤ) → pos 0 ≤ℤ a → pos 0 ≤ℤ s → (pos 0 ≤ℤ ((a +ℤ s) +ℤ pos (2 ^ 21))) × (a ≤ℤ ((a +ℤ s) +ℤ pos (2 ^ 21)))
      sum_box a s h k = (omega (arith, ints, h, k), omega (arith, ints, h, k))

  pub heights_least : (c : ℕ) → c < length l.children → pos 0 ≤ℤ heights_of (child_at l c)
  heights_least c h =
      sum_both (child_at l c).size.height (ports_high (child_at l c).ports) (level.children c h).sound.size.height.above (least_ports (child_at l c).ports (λ j inside. ((level.children c h).sound.ports j inside).size.height.above))
    where
      sum_both : (a s : ℤ) → pos 0 ≤ℤ a → pos 0 ≤ℤ s → pos 0 ≤ℤ (a +ℤ s)
      sum_both a s h k = omega (arith, ints, h, k)

  abbrev side_at : ℕ → ℕ → Side
  side_at c k = side_of (child_at l c) (port_spot l p c k)

  beside_span : (c k : ℕ) → c < length l.children → k < length (child_at l c).ports → is_upright (side_at c k) ≡ false
      → IsSpan (heights_of (child_at l c) +ℤ pos (2 ^ 21)) ((dock_of_spot l o c (port_spot l p c k)).offset -ℤ (port_at (child_at l c) k).half) (port_at (child_at l c) k).size.height
  beside_span c k h less beside = step (is_pinned (child_at l c) k) refl
    where
      step : (b : Bool) → is_pinned (child_at l c) k ≡ b
          → IsSpan (heights_of (child_at l c) +ℤ pos (2 ^ 21)) (offset_of (child_at l c) (side_at c k) b (Some k) (o c (side_at c k)) k -ℤ (port_at (child_at l c) k).half) (port_at (child_at l c) k).size.height
      step true pinned =
          let is = level.children c h in
          let same = pinned_side (child_at l c) k ((port_spot l p c k).enters && not (port_spot l p c k).leaves) (is.sound.ports k less) pinned in
          let near : IsNear (size_along (side_at c k) (child_at l c).size) (along (side_at c k) (port_at (child_at l c) k).place) =
          subst (λ (s : Side). IsNear (size_along s (child_at l c).size) (along s (port_at (child_at l c) k).place)) (sym same) ((is.near k less).pinned pinned)
          in
          subst (λ y. IsSpan (heights_of (child_at l c) +ℤ pos (2 ^ 21)) y (port_at (child_at l c) k).size.height) (face_back (along (side_at c k) (port_at (child_at l c) k).place) (port_at (child_at l c) k).half)
          (near_span (heights_of (child_at l c) +ℤ pos (2 ^ 21)) (along (side_at c k) (port_at (child_at l c) k).place) (child_at l c).size.height (port_at (child_at l c) k).size.height
          (subst (λ z. IsNear z (along (side_at c k) (port_at (child_at l c) k).place)) (level_along (side_at c k) (child_at l c).size beside) near)
          (is.sound.ports k less).size.height.above is.sound.size.height.above (room_of_port c k h less))
      step false free =
          let is = level.children c h in
          let inside = dock_inside (child_at l c) (port_spot l p c k) (o c (side_at c k)) is.sound (held_once l p o c (port_spot l p c k) orders h (port_spot_there l p c k less)) free in
          let half = (is.sound.ports k less).half in
          spread_span (heights_of (child_at l c) +ℤ pos (2 ^ 21)) (offset_of (child_at l c) (side_at c k) false (Some k) (o c (side_at c k)) k) (port_at (child_at l c) k).half (child_at l c).size.height (port_at (child_at l c) k).size.height
          (subst (λ z. IsWithin (pos 0) z (offset_of (child_at l c) (side_at c k) false (Some k) (o c (side_at c k)) k)) (level_along (side_at c k) (child_at l c).size beside)
          (subst (λ b. IsWithin (pos 0) (size_along (side_at c k) (child_at l c).size) (offset_of (child_at l c) (side_at c k) b (Some k) (o c (side_at c k)) k)) free inside))
          (subst (λ z. IsWithin (pos 0) z (port_at (child_at l c) k).half)
          (level_along (side_else (given_side (child_at l c) k) false) (port_at (child_at l c) k).size (level_given (given_side (child_at l c) k) ((port_spot l p c k).enters && not (port_spot l p c k).leaves) beside)) half)
          (is.sound.ports k less).size.height.above is.sound.size.height.above (room_of_port c k h less)

  outline_span : (c a m : ℕ) → c < length l.children → a + m ≤ length (child_at l c).ports
      → IsSpan (heights_of (child_at l c) +ℤ pos (2 ^ 21)) (outline_from l p o c (range_with_len a m)).y (outline_from l p o c (range_with_len a m)).height
  outline_span c a zero h most = let box = box_room c h in box_span (heights_of (child_at l c) +ℤ pos (2 ^ 21)) (child_at l c).size.height box.0 box.1
  outline_span c a (suc m) h most =
      let less : a < length (child_at l c).ports = omega (arith, most) in
      hull_span (heights_of (child_at l c) +ℤ pos (2 ^ 21)) (outline_from l p o c (range_with_len (a + 1) m)).y (outline_from l p o c (range_with_len (a + 1) m)).height (port_place l p o c a).y (port_at (child_at l c) a).size.height
      (outline_span c (a + 1) m h (omega (arith, most)))
      (port_span (child_at l c) (side_at c a) a (dock_of_spot l o c (port_spot l p c a)).offset (heights_of (child_at l c) +ℤ pos (2 ^ 21)) (level.children c h) less (room_of_port c a h less) (beside_span c a h less))

  pub outline_high : (c : ℕ) → c < length l.children → (outline l p o c).height ≤ℤ ((heights_of (child_at l c) +ℤ pos (2 ^ 21)) +ℤ (heights_of (child_at l c) +ℤ pos (2 ^ 21)))
  outline_high c h = span_high (heights_of (child_at l c) +ℤ pos (2 ^ 21)) (outline l p o c).y (outline l p o c).height (outline_span c 0 (length (child_at l c).ports) h (omega arith))
