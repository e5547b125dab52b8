-- How far the parts of a child reach.
use Rattle.std.proofs.Common.{◌≡◌, ℕ, zero, suc, ◌<◌, ◌^◌, ℤ, pos, ◌+ℤ◌, ◌-ℤ◌, ◌≤ℤ◌, List, [], ◌∷◌, length, map, get_or, Bool, true, false, not, cond, ◌&&◌, Option, None, Some, is_some, IsSomeAnd, IsTrue, refl, sym, subst, arith}
use Rattle.std.proofs.lemmas.Int.{ints, clamps}
use Rattle.std.specs.Int.{int_min, int_max}
use Rattle.drawing_types.specs.declared.shape.Point.{Point}
use Rattle.drawing_types.specs.declared.shape.Size.{Size}
use Rattle.drawing_types.specs.declared.shape.Rect.{Rect}
use Rattle.drawing_types.specs.declared.shape.Side.{Side}
use Rattle.drawing_types.specs.declared.shape.Side.TheVariants.{North, East, South, West}
use Rattle.elk_doc.specs.declared.document.PortRule.{PortRule}
use Rattle.elk_doc.specs.declared.document.PortRule.TheVariants.{Free, FixedSide, FixedOrder, FixedPos}
use Rattle.drawing_types.specs.Shapes.{no_size}
use Rattle.elk_doc.specs.Fits.{IsBounded, IsBoundedSpan}
use Rattle.elk_doc.specs.PortsKept.{pins, size_along}
use Rattle.drawing_types.specs.Shapes.{hull, hull_size, rect_at}
use Rattle.elk_doc.specs.Sides.{side_from}
use Rattle.elk_doc.specs.Sound.{IsOutside, along}
use Rattle.drawing_types.specs.Ranges.{IsWithin}
use Rattle.port_order.specs.declared.children.Child.{Child}
use Rattle.port_order.specs.declared.children.ChildPort.{ChildPort}
use Rattle.port_order.specs.Child.{is_pinned, no_port, port_at}
use Rattle.port_order.specs.Conditions.{IsChild, IsChildPort, IsSmall}
use Rattle.port_order.specs.Places.{corner_of, face_of, given_face, outer_face, place_of_port}
use Rattle.port_order.specs.Sides.{given_side, side_else, side_of_place}
use Rattle.level_model.specs.Conditions.{IsLevel, IsNear, sizes_of, sum_of_ints, total_height, total_width}
use Rattle.level_model.specs.Level.{PlainLevel, child_at}
use Rattle.dock_table.proofs.AddLemmas.{ports_few}
use Rattle.dock_table.specs.Narrow.{IsNarrow, IsNearRect, IsNearSpan, IsOffset}

-- ---- sums of lengths

sum_least : (f : Size → ℤ) (ss : List Size) (d : Size) → ((k : ℕ) → k < length ss → pos 0 ≤ℤ f (get_or ss k d)) → pos 0 ≤ℤ sum_of_ints (map f ss)
sum_least f [] d h = omega (arith, ints)
sum_least f (s ∷ ss) d h =
    let here = h 0 (omega arith) in
    let rest = sum_least f ss d (λ k less. h (suc k) (omega (arith, less))) in
    omega (arith, ints, here, rest)

part_most : (f : Size → ℤ) (ss : List Size) (d : Size) (k : ℕ) → ((k : ℕ) → k < length ss → pos 0 ≤ℤ f (get_or ss k d)) → k < length ss → f (get_or ss k d) ≤ℤ sum_of_ints (map f ss)
part_most f [] d k h less = absurd (omega (arith, less))
part_most f (s ∷ ss) d zero h less =
    let rest = sum_least f ss d (λ k l. h (suc k) (omega (arith, l))) in
    omega (arith, ints, rest)
part_most f (s ∷ ss) d (suc k) h less =
    let here = h 0 (omega arith) in
    let rest = part_most f ss d k (λ j l. h (suc j) (omega (arith, l))) (omega (arith, less)) in
    omega (arith, ints, here, rest)

port_size : (ps : List ChildPort) (k : ℕ) → get_or (map (λ (q : ChildPort). q.size) ps) k no_size ≡ (get_or ps k no_port).size
port_size [] k = refl
port_size (p ∷ ps) zero = refl
port_size (p ∷ ps) (suc k) = port_size ps k

sizes_long : (ps : List ChildPort) → length (map (λ (q : ChildPort). q.size) ps) ≡ length ps
sizes_long [] = refl
sizes_long (p ∷ ps) = let h = sizes_long ps in omega (arith, h)

size_at : (c : Child) (k : ℕ) (P : Size → Type 0) → P c.size → ((j : ℕ) → j < length c.ports → P (port_at c j).size) → k < length (sizes_of c) → P (get_or (sizes_of c) k no_size)
size_at c zero P box ports h = box
size_at c (suc k) P box ports h = subst P (sym (port_size c.ports k)) (ports k (let long = sizes_long c.ports in omega (arith, h, long)))

widths_least : (c : Child) → IsChild c → (k : ℕ) → k < length (sizes_of c) → pos 0 ≤ℤ (get_or (sizes_of c) k no_size).width
widths_least c is k h = size_at c k (λ s. pos 0 ≤ℤ s.width) is.size.width.above (λ j less. (is.ports j less).size.width.above) h

heights_least : (c : Child) → IsChild c → (k : ℕ) → k < length (sizes_of c) → pos 0 ≤ℤ (get_or (sizes_of c) k no_size).height
heights_least c is k h = size_at c k (λ s. pos 0 ≤ℤ s.height) is.size.height.above (λ j less. (is.ports j less).size.height.above) h

child_width : (cs : List Child) (c : ℕ) (d : Child) → ((c : ℕ) → c < length cs → IsChild (get_or cs c d)) → (pos 0 ≤ℤ total_width cs) × (c < length cs → sum_of_ints (map (λ (s : Size). s.width) (sizes_of (get_or cs c d))) ≤ℤ total_width cs)
child_width [] c d h = (omega (arith, ints), λ less. absurd (omega (arith, less)))
child_width (x ∷ cs) zero d h =
    let rest = child_width cs 0 d (λ k l. h (suc k) (omega (arith, l))) in
    let r = rest.0 in
    let here = sum_least (λ s. s.width) (sizes_of x) no_size (widths_least x (h 0 (omega arith))) in
    (omega (arith, ints, r, here), λ less. omega (arith, ints, r))
child_width (x ∷ cs) (suc c) d h =
    let rest = child_width cs c d (λ k l. h (suc k) (omega (arith, l))) in
    let r = rest.0 in
    let here = sum_least (λ s. s.width) (sizes_of x) no_size (widths_least x (h 0 (omega arith))) in
    (omega (arith, ints, r, here), λ less. let part = rest.1 (omega (arith, less)) in omega (arith, ints, here, part))

child_height : (cs : List Child) (c : ℕ) (d : Child) → ((c : ℕ) → c < length cs → IsChild (get_or cs c d)) → (pos 0 ≤ℤ total_height cs) × (c < length cs → sum_of_ints (map (λ (s : Size). s.height) (sizes_of (get_or cs c d))) ≤ℤ total_height cs)
child_height [] c d h = (omega (arith, ints), λ less. absurd (omega (arith, less)))
child_height (x ∷ cs) zero d h =
    let rest = child_height cs 0 d (λ k l. h (suc k) (omega (arith, l))) in
    let r = rest.0 in
    let here = sum_least (λ s. s.height) (sizes_of x) no_size (heights_least x (h 0 (omega arith))) in
    (omega (arith, ints, r, here), λ less. omega (arith, ints, r))
child_height (x ∷ cs) (suc c) d h =
    let rest = child_height cs c d (λ k l. h (suc k) (omega (arith, l))) in
    let r = rest.0 in
    let here = sum_least (λ s. s.height) (sizes_of x) no_size (heights_least x (h 0 (omega arith))) in
    (omega (arith, ints, r, here), λ less. let part = rest.1 (omega (arith, less)) in omega (arith, ints, here, part))

at_most : (a b c : ℤ) → a ≤ℤ b → b ≤ℤ c → a ≤ℤ c
at_most a b c h k = omega (arith, ints, h, k)

-- the children of a level are narrow
pub narrow : (l : PlainLevel) (c : ℕ) → IsLevel l → c < length l.children → IsNarrow (child_at l c)
narrow l c level h =
    let d : Child = child_at (record { children = []; edges = []; spacing = l.spacing; choices = l.choices }) 0 in
    let is = level.children c h in
    let sound : (k : ℕ) → k < length l.children → IsChild (get_or l.children k (child_at (record { children = []; edges = []; spacing = l.spacing; choices = l.choices }) 0)) = λ k less. (level.children k less).sound in
    let wide = at_most _ _ _ ((child_width l.children c (child_at (record { children = []; edges = []; spacing = l.spacing; choices = l.choices }) 0) sound).1 h) level.widths in
    let high = at_most _ _ _ ((child_height l.children c (child_at (record { children = []; edges = []; spacing = l.spacing; choices = l.choices }) 0) sound).1 h) level.heights in
    let widths : (k : ℕ) → k < length (sizes_of (child_at l c)) → (get_or (sizes_of (child_at l c)) k no_size).width ≤ℤ pos (2 ^ 46) = λ k less.
    at_most _ _ _ (part_most (λ s. s.width) (sizes_of (child_at l c)) no_size k (widths_least (child_at l c) is.sound) less) wide
    in
    let heights : (k : ℕ) → k < length (sizes_of (child_at l c)) → (get_or (sizes_of (child_at l c)) k no_size).height ≤ℤ pos (2 ^ 46) = λ k less.
    at_most _ _ _ (part_most (λ s. s.height) (sizes_of (child_at l c)) no_size k (heights_least (child_at l c) is.sound) less) high
    in
    let long = sizes_long (child_at l c).ports in
    record {
      child = is.sound;
      few = let most = ports_few l c level in omega (arith, most);
      near = is.near;
      width = widths 0 (omega arith);
      height = heights 0 (omega arith);
      port_width = λ k less. subst (λ (s : Size). s.width ≤ℤ pos (2 ^ 46)) (port_size (child_at l c).ports k) (widths (suc k) (omega (arith, less, long)));
      port_height = λ k less. subst (λ (s : Size). s.height ≤ℤ pos (2 ^ 46)) (port_size (child_at l c).ports k) (heights (suc k) (omega (arith, less, long)));
    }

-- ---- pinned ports

pinned_given : (rule : PortRule) (asked : Option Side) (leaf : Bool) (by_place : Option Side) (b : Bool) → pins rule leaf (is_some asked) ≡ true → (IsTrue leaf → rule ≡ FixedPos → IsTrue (is_some (side_from rule asked leaf by_place)))
    → side_else (side_from rule asked leaf by_place) b ≡ side_else (side_from rule asked leaf by_place) false
pinned_given Free asked leaf by_place b pinned outside = absurd cc
pinned_given FixedSide asked leaf by_place b pinned outside = absurd cc
pinned_given FixedOrder asked leaf by_place b pinned outside = absurd cc
pinned_given FixedPos (Some s) leaf by_place b pinned outside = refl
pinned_given FixedPos None false by_place b pinned outside = absurd cc
pinned_given FixedPos None true (Some s) b pinned outside = refl
pinned_given FixedPos None true None b pinned outside = let bad = outside refl refl in absurd cc

is_some_and : (o : Option Side) (P : Side → Type 0) → IsSomeAnd o P → IsTrue (is_some o)
is_some_and None P h = absurd h
is_some_and (Some s) P h = refl

leaf_not : (b : Bool) → not b ≡ true → b ≡ false
leaf_not true h = absurd cc
leaf_not false h = refl

-- a pinned port has a side that does not depend on the flow of edges
pub pinned_side : (c : Child) (k : ℕ) (b : Bool) → IsChildPort c k → is_pinned c k ≡ true → side_else (given_side c k) b ≡ side_else (given_side c k) false
pinned_side c k b is pinned =
    pinned_given c.rule (port_at c k).side (not c.compound) (side_of_place c.direction c.size (port_at c k).place (port_at c k).size) b pinned
    (λ leaf fixed. is_some_and (given_side c k) (IsOutside c.size (port_at c k).place (port_at c k).size) (is.outside (leaf_not c.compound leaf) fixed))

small_along : (side : Side) (s : Size) → s.width ≤ℤ pos (2 ^ 46) → s.height ≤ℤ pos (2 ^ 46) → size_along side s ≤ℤ pos (2 ^ 46)
small_along North s w h = w
small_along East s w h = h
small_along South s w h = w
small_along West s w h = h

given_sum : (len place half size : ℤ) → len ≤ℤ pos (2 ^ 46) → size ≤ℤ pos (2 ^ 46) → IsNear len place → IsWithin (pos 0) size half → IsOffset (place +ℤ half)
given_sum len place half size len_small size_small near within =
    let a = near.above in
    let b = near.below in
    let c = within.above in
    let d = within.below in
    record { above = omega (arith, ints, a, c); below = omega (arith, ints, b, d, len_small, size_small) }

-- the anchor of a pinned port
pub given_near : (c : Child) (side : Side) (k : ℕ) → IsNarrow c → k < length c.ports → is_pinned c k ≡ true → side ≡ side_else (given_side c k) false → IsOffset (along side (port_at c k).place +ℤ (port_at c k).half)
given_near c side k is h pinned on =
    let s : Side = side_else (given_side c k) false in
    subst (λ x. IsOffset (along x (port_at c k).place +ℤ (port_at c k).half)) (sym on)
    (given_sum (size_along (side_else (given_side c k) false) c.size) (along (side_else (given_side c k) false) (port_at c k).place) (port_at c k).half (size_along (side_else (given_side c k) false) (port_at c k).size)
    (small_along (side_else (given_side c k) false) c.size is.width is.height)
    (small_along (side_else (given_side c k) false) (port_at c k).size (is.port_width k h) (is.port_height k h))
    ((is.near k h).pinned pinned)
    (is.child.ports k h).half)

-- the anchor of a spread spot
pub spread_near : (c : Child) (side : Side) (z : ℤ) → IsNarrow c → IsWithin (pos 0) (size_along side c.size) z → IsOffset z
spread_near c side z is within =
    let small = small_along side c.size is.width is.height in
    let a = within.above in
    let b = within.below in
    record { above = omega (arith, ints, a); below = omega (arith, ints, b, small) }

-- ---- faces

face_outer : (side : Side) (box size : Size) → IsSmall box → IsSmall size → box.width ≤ℤ pos (2 ^ 46) → box.height ≤ℤ pos (2 ^ 46) → size.width ≤ℤ pos (2 ^ 46) → size.height ≤ℤ pos (2 ^ 46) → IsOffset (outer_face side box size)
face_outer North box size b s bw bh sw sh = let x = s.height.above in record { above = omega (arith, ints, sh); below = omega (arith, ints, x) }
face_outer East box size b s bw bh sw sh = let x = s.width.above in let y = b.width.above in record { above = omega (arith, ints, x, y); below = omega (arith, ints, bw, sw) }
face_outer South box size b s bw bh sw sh = let x = s.height.above in let y = b.height.above in record { above = omega (arith, ints, x, y); below = omega (arith, ints, bh, sh) }
face_outer West box size b s bw bh sw sh = let x = s.width.above in record { above = omega (arith, ints, sw); below = omega (arith, ints, x) }

near_face : (len z size : ℤ) → len ≤ℤ pos (2 ^ 46) → size ≤ℤ pos (2 ^ 46) → pos 0 ≤ℤ size → IsNear len z → IsOffset z × IsOffset (z +ℤ size)
near_face len z size len_small size_small least near =
    let a = near.above in
    let b = near.below in (
      record { above = omega (arith, ints, a); below = omega (arith, ints, b, len_small) },
      record { above = omega (arith, ints, a, least); below = omega (arith, ints, b, len_small, size_small) },
    )

face_given : (side : Side) (box size : Size) (place : Point) → IsSmall size → box.width ≤ℤ pos (2 ^ 46) → box.height ≤ℤ pos (2 ^ 46) → size.width ≤ℤ pos (2 ^ 46) → size.height ≤ℤ pos (2 ^ 46) → IsNear box.width place.x → IsNear box.height place.y → IsOffset (given_face side place size)
face_given North box size place s bw bh sw sh x y = (near_face box.height place.y size.height bh sh s.height.above y).0
face_given East box size place s bw bh sw sh x y = (near_face box.width place.x size.width bw sw s.width.above x).1
face_given South box size place s bw bh sw sh x y = (near_face box.height place.y size.height bh sh s.height.above y).1
face_given West box size place s bw bh sw sh x y = (near_face box.width place.x size.width bw sw s.width.above x).0

face_bool : (c : Child) (side : Side) (k : ℕ) (b : Bool) → IsNarrow c → k < length c.ports → (b ≡ true → c.compound ≡ false) → IsOffset (cond b (given_face side (port_at c k).place (port_at c k).size) (outer_face side c.size (port_at c k).size))
face_bool c side k true is h leaf =
    face_given side c.size (port_at c k).size (port_at c k).place (is.child.ports k h).size is.width is.height (is.port_width k h) (is.port_height k h) ((is.near k h).leaf_x (leaf refl)) ((is.near k h).leaf_y (leaf refl))
face_bool c side k false is h leaf =
    face_outer side c.size (port_at c k).size is.child.size (is.child.ports k h).size is.width is.height (is.port_width k h) (is.port_height k h)

second_false : (a b : Bool) → (a && not b) ≡ true → b ≡ false
second_false true true h = absurd cc
second_false false true h = absurd cc
second_false a false h = refl

pub face_near : (c : Child) (side : Side) (k : ℕ) → IsNarrow c → k < length c.ports → IsOffset (face_of c side k)
face_near c side k is h = face_bool c side k (is_pinned c k && not c.compound) is h (second_false (is_pinned c k) c.compound)

-- ---- rectangles

start_span : (offset half len size : ℤ) → IsOffset offset → IsWithin (pos 0) len half → len ≤ℤ pos (2 ^ 46) → pos 0 ≤ℤ size → size ≤ℤ pos (2 ^ 46) → IsNearSpan (offset -ℤ half) size
start_span offset half len size o h len_small least most =
    let a = o.above in
    let b = o.below in
    let c = h.above in
    let d = h.below in
    record {
      low_end = record { above = omega (arith, ints, a, d, len_small); below = omega (arith, ints, b, c) };
      high_end = record { above = omega (arith, ints, a, d, len_small, least); below = omega (arith, ints, b, c, most) };
      solid = least;
    }

face_span : (face size : ℤ) → IsOffset face → pos 0 ≤ℤ size → size ≤ℤ pos (2 ^ 46) → IsNearSpan face size × IsNearSpan (face -ℤ size) size
face_span face size f least most =
    let a = f.above in
    let b = f.below in (
      record {
        low_end = record { above = omega (arith, ints, a); below = omega (arith, ints, b) };
        high_end = record { above = omega (arith, ints, a, least); below = omega (arith, ints, b, most) };
        solid = least;
      },
      record {
        low_end = record { above = omega (arith, ints, a, most); below = omega (arith, ints, b, least) };
        high_end = record { above = omega (arith, ints, a); below = omega (arith, ints, b) };
        solid = least;
      },
    )

corner_near : (side : Side) (face offset half len : ℤ) (size : Size) → IsOffset face → IsOffset offset → IsWithin (pos 0) len half → len ≤ℤ pos (2 ^ 46) → IsSmall size → size.width ≤ℤ pos (2 ^ 46) → size.height ≤ℤ pos (2 ^ 46)
    → IsNearRect (rect_at (corner_of side face (offset -ℤ half) size) size)
corner_near North face offset half len size f o h len_small s w t = record { across = start_span offset half len size.width o h len_small s.width.above w; along = (face_span face size.height f s.height.above t).0 }
corner_near East face offset half len size f o h len_small s w t = record { across = (face_span face size.width f s.width.above w).1; along = start_span offset half len size.height o h len_small s.height.above t }
corner_near South face offset half len size f o h len_small s w t = record { across = start_span offset half len size.width o h len_small s.width.above w; along = (face_span face size.height f s.height.above t).1 }
corner_near West face offset half len size f o h len_small s w t = record { across = (face_span face size.width f s.width.above w).0; along = start_span offset half len size.height o h len_small s.height.above t }

pub port_near : (c : Child) (side : Side) (k : ℕ) (offset : ℤ) → IsNarrow c → k < length c.ports → IsOffset offset → IsNearRect (rect_at (place_of_port c side k offset) (port_at c k).size)
port_near c side k offset is h o =
    corner_near side (face_of c side k) offset (port_at c k).half (size_along (side_else (given_side c k) false) (port_at c k).size) (port_at c k).size (face_near c side k is h) o (is.child.ports k h).half
    (small_along (side_else (given_side c k) false) (port_at c k).size (is.port_width k h) (is.port_height k h))
    (is.child.ports k h).size (is.port_width k h) (is.port_height k h)

box_span : (size : ℤ) → pos 0 ≤ℤ size → size ≤ℤ pos (2 ^ 46) → IsNearSpan (pos 0) size
box_span size least most =
    record { low_end = record { above = omega (arith, ints); below = omega (arith, ints) }; high_end = record { above = omega (arith, ints, least); below = omega (arith, ints, most) }; solid = least }

pub box_near : (c : Child) → IsNarrow c → IsNearRect (rect_at (record { x = pos 0; y = pos 0 }) c.size)
box_near c is = record { across = box_span c.size.width is.child.size.width.above is.width; along = box_span c.size.height is.child.size.height.above is.height }

min_within : (low high a b : ℤ) → IsWithin low high a → IsWithin low high b → IsWithin low high (int_min a b)
min_within low high a b x y = let p = x.above in let q = x.below in let r = y.above in let s = y.below in record { above = omega (arith, ints, clamps, p, r); below = omega (arith, ints, clamps, q, s) }

max_within : (low high a b : ℤ) → IsWithin low high a → IsWithin low high b → IsWithin low high (int_max a b)
max_within low high a b x y = let p = x.above in let q = x.below in let r = y.above in let s = y.below in record { above = omega (arith, ints, clamps, p, r); below = omega (arith, ints, clamps, q, s) }

back : (a b : ℤ) → a +ℤ (b -ℤ a) ≡ b
back a b = omega (arith, ints)

stretch : (a s b t : ℤ) → pos 0 ≤ℤ s → pos 0 ≤ℤ hull_size a s b t
stretch a s b t h = omega (arith, ints, clamps, h)

hull_span : (a s b t : ℤ) → IsNearSpan a s → IsNearSpan b t → IsNearSpan (int_min a b) (hull_size a s b t)
hull_span a s b t x y =
    record {
      low_end = min_within _ _ a b x.low_end y.low_end;
      high_end = rw (back (int_min a b) (int_max (a +ℤ s) (b +ℤ t))) (max_within _ _ (a +ℤ s) (b +ℤ t) x.high_end y.high_end);
      solid = stretch a s b t x.solid;
    }

span_bounded : (low size : ℤ) → IsNearSpan low size → IsBoundedSpan low size
span_bounded low size x =
    let a = x.low_end.above in
    let b = x.low_end.below in
    let m = x.high_end.above in
    let n = x.high_end.below in
    record {
      low_end = record { above = omega (arith, ints, a); below = omega (arith, ints, b) };
      high_end = record { above = omega (arith, ints, m); below = omega (arith, ints, n) };
    }

pub near_bounded : (r : Rect) → IsNearRect r → IsBounded r
near_bounded r x = record { across = span_bounded _ _ x.across; along = span_bounded _ _ x.along }

pub hull_near : (r s : Rect) → IsNearRect r → IsNearRect s → IsNearRect (hull r s)
hull_near r s x y = record { across = hull_span r.x r.width s.x s.width x.across y.across; along = hull_span r.y r.height s.y s.height x.along y.along }
