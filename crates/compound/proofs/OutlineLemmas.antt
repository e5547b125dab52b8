-- Where ports are short, the outline of a child is hardly wider or higher than its box.
use Rattle.std.proofs.Common.{◌≡◌, ℕ, ◌<◌, ◌^◌, ◌&&◌, not, Bool, true, false, List, [], ◌∷◌, length, ℤ, pos, neg_ℤ, ◌+ℤ◌, ◌-ℤ◌, ◌≤ℤ◌, Option, Some, refl, sym, ◌∙◌, ap, subst, inl, inr, arith}
use Rattle.std.proofs.lemmas.Int.{ints, clamps}
use Rattle.std.proofs.lemmas.Bool.{cases_Bool}
use Rattle.std.specs.Prelude.{IsFalse}
use Rattle.std.specs.Int.{int_min}
use Rattle.std.specs.List.{range_with_len}
use Rattle.drawing_types.specs.declared.shape.Point.{Point}
use Rattle.drawing_types.specs.declared.shape.Size.{Size}
use Rattle.drawing_types.specs.declared.shape.Side.{Side}
use Rattle.drawing_types.specs.declared.shape.Side.TheVariants.{North, East, South, West}
use Rattle.drawing_types.specs.Shapes.{origin}
use Rattle.elk_doc.specs.PortsKept.{across, flush, size_along}
use Rattle.drawing_types.specs.Shapes.{hull_size, rect_at}
use Rattle.elk_doc.specs.Sound.{IsSoundSize, along}
use Rattle.drawing_types.specs.Ranges.{IsWithin}
use Rattle.port_order.specs.declared.children.Child.{Child}
use Rattle.port_order.specs.declared.spots.Spot.{Spot}
use Rattle.port_order.specs.Child.{is_pinned, port_at}
use Rattle.port_order.specs.Laws.{KeepsPort, stands_at}
use Rattle.port_order.specs.Places.{HoldsOnce, dock_of, face_of}
use Rattle.port_order.specs.Sides.{given_side, given_to, side_else, side_of}
use Rattle.port_order.proofs.KeptLemmas.{ports_stand, along_corner}
use Rattle.level_model.specs.Conditions.{IsLevel, IsLevelChild, IsNear}
use Rattle.level_model.specs.Level.{Orders, PlainLevel, PlainPlan, child_at, outline, outline_from, port_place, port_spot}
use Rattle.level_model.specs.Units.{AreOrders}
use Rattle.level_model.proofs.Lists.{Has, range_has}
use Rattle.level_model.proofs.SpotLemmas.{held_once, port_spot_there}
use Rattle.dock_table.proofs.NarrowLemmas.{pinned_side}
use Rattle.level_model.proofs.OutlineLemmas.{along_given}

-- from 2^22 before 0 to 2^22 behind a length
record InSpan (length z size : ℤ) : Type 0 where
  low : neg_ℤ (pos (2 ^ 22)) ≤ℤ z
  high : (z +ℤ size) ≤ℤ (length +ℤ pos (2 ^ 22))

-- the size across a side
abbrev size_across : Side → Size → ℤ
size_across North s = s.height
size_across East s = s.width
size_across South s = s.height
size_across West s = s.width

short_along : (side : Side) (s : Size) → IsSoundSize s → IsWithin (pos 0) (pos (2 ^ 20)) (size_along side s)
short_along North s h = h.width
short_along East s h = h.height
short_along South s h = h.width
short_along West s h = h.height

short_across : (side : Side) (s : Size) → IsSoundSize s → IsWithin (pos 0) (pos (2 ^ 20)) (size_across side s)
short_across North s h = h.height
short_across East s h = h.width
short_across South s h = h.height
short_across West s h = h.width

given_span : (len w z : ℤ) → IsWithin (pos 0) (pos (2 ^ 20)) w → IsNear len z → InSpan len z w
given_span len w z short near =
    let a = near.above in
    let b = near.below in
    let c = short.below in
    record { low = omega (arith, ints, a); high = omega (arith, ints, b, c) }

spread_span : (len w half offset : ℤ) → IsWithin (pos 0) (pos (2 ^ 20)) w → IsWithin (pos 0) w half → IsWithin (pos 0) len offset → InSpan len (offset -ℤ half) w
spread_span len w half offset short half_in offset_in =
    let a = half_in.above in
    let b = half_in.below in
    let c = offset_in.above in
    let d = offset_in.below in
    let e = short.below in
    record { low = omega (arith, ints, b, c, e); high = omega (arith, ints, a, d, e) }

behind_span : (len w z : ℤ) → pos 0 ≤ℤ len → IsWithin (pos 0) (pos (2 ^ 20)) w → z ≡ len → InSpan len z w
behind_span len w z least short e = let h = short.below in record { low = omega (arith, ints, least, e); high = omega (arith, ints, h, e) }

before_span : (len w z : ℤ) → pos 0 ≤ℤ len → IsWithin (pos 0) (pos (2 ^ 20)) w → z ≡ neg_ℤ w → InSpan len z w
before_span len w z least short e = let h = short.below in record { low = omega (arith, ints, h, e); high = omega (arith, ints, least, e) }

-- a port that stands flush outside a box
flush_span : (side : Side) (box size : Size) (z : ℤ) → pos 0 ≤ℤ box.width → pos 0 ≤ℤ box.height → IsSoundSize size → z ≡ flush side (rect_at origin box) size
    → InSpan (size_across side box) z (size_across side size)
flush_span North box size z w h short e = before_span box.height size.height z h short.height e
flush_span East box size z w h short e = behind_span box.width size.width z w short.width e
flush_span South box size z w h short e = behind_span box.height size.height z h short.height e
flush_span West box size z w h short e = before_span box.width size.width z w short.width e

near_across : (side : Side) (box : Size) (q : Point) → IsNear box.width q.x → IsNear box.height q.y → IsNear (size_across side box) (across side q)
near_across North box q x y = y
near_across East box q x y = x
near_across South box q x y = y
near_across West box q x y = x

leaf_of : (a b : Bool) → (a && not b) ≡ true → b ≡ false
leaf_of true true h = absurd cc
leaf_of true false h = refl
leaf_of false b h = absurd cc

-- a place and a size in both directions
record InBox (box : Size) (at : Point) (size : Size) : Type 0 where
  x : InSpan box.width at.x size.width
  y : InSpan box.height at.y size.height

in_box : (side : Side) (box : Size) (at : Point) (size : Size) → InSpan (size_along side box) (along side at) (size_along side size)
    → InSpan (size_across side box) (across side at) (size_across side size) → InBox box at size
in_box North box at size h k = record { x = h; y = k }
in_box East box at size h k = record { x = k; y = h }
in_box South box at size h k = record { x = h; y = k }
in_box West box at size h k = record { x = k; y = h }

module _ (c : Child) (s : Spot) (k : ℕ) (order : List ℕ) (is : IsLevelChild c) (there : k < length c.ports) (port : s.port ≡ Some k) (kept : KeepsPort c s k order) (short : IsSoundSize (port_at c k).size) where
  given_of : side_else (given_side c k) (s.enters && not s.leaves) ≡ side_of c s
  given_of = ap (λ (o : Option ℕ). side_else (given_to c o) (s.enters && not s.leaves)) (sym port)

  along_span : InSpan (size_along (side_of c s) c.size) (along (side_of c s) (stands_at c s k order)) (size_along (side_of c s) (port_at c k).size)
  along_span =
      elim (cases_Bool (is_pinned c k)) [
        | inl pinned ↦
            let same : side_else (given_side c k) false ≡ side_of c s = sym (pinned_side c k (s.enters && not s.leaves) (is.sound.ports k there) pinned) ∙ given_of in
            let near : IsNear (size_along (side_of c s) c.size) (along (side_of c s) (port_at c k).place) =
            subst (λ q. IsNear (size_along q c.size) (along q (port_at c k).place)) same ((is.near k there).pinned pinned)
            in
            subst (λ z. InSpan (size_along (side_of c s) c.size) z (size_along (side_of c s) (port_at c k).size)) (sym (kept.along_kept pinned))
            (given_span (size_along (side_of c s) c.size) (size_along (side_of c s) (port_at c k).size) (along (side_of c s) (port_at c k).place) (short_along (side_of c s) (port_at c k).size short) near)
        | inr free ↦
            let long : size_along (side_else (given_side c k) false) (port_at c k).size ≡ size_along (side_of c s) (port_at c k).size =
            along_given (given_side c k) (s.enters && not s.leaves) (port_at c k).size ∙ ap (λ q. size_along q (port_at c k).size) given_of
            in
            let half : IsWithin (pos 0) (size_along (side_of c s) (port_at c k).size) (port_at c k).half = subst (λ z. IsWithin (pos 0) z (port_at c k).half) long (is.sound.ports k there).half in
            let start : along (side_of c s) (stands_at c s k order) ≡ dock_of c s order -ℤ (port_at c k).half =
            along_corner (side_of c s) (face_of c (side_of c s) k) (dock_of c s order -ℤ (port_at c k).half) (port_at c k).size
            in
            subst (λ z. InSpan (size_along (side_of c s) c.size) z (size_along (side_of c s) (port_at c k).size)) (sym start)
            (spread_span (size_along (side_of c s) c.size) (size_along (side_of c s) (port_at c k).size) (port_at c k).half (dock_of c s order) (short_along (side_of c s) (port_at c k).size short) half (kept.on_side free))
      ]

  across_span : InSpan (size_across (side_of c s) c.size) (across (side_of c s) (stands_at c s k order)) (size_across (side_of c s) (port_at c k).size)
  across_span =
      elim (cases_Bool (is_pinned c k && not c.compound)) [
        | inl fixed ↦
            let leaf : c.compound ≡ false = leaf_of (is_pinned c k) c.compound fixed in
            let near = near_across (side_of c s) c.size (port_at c k).place ((is.near k there).leaf_x leaf) ((is.near k there).leaf_y leaf) in
            subst (λ z. InSpan (size_across (side_of c s) c.size) z (size_across (side_of c s) (port_at c k).size)) (sym (kept.across_kept fixed))
            (given_span (size_across (side_of c s) c.size) (size_across (side_of c s) (port_at c k).size) (across (side_of c s) (port_at c k).place) (short_across (side_of c s) (port_at c k).size short) near)
        | inr loose ↦ flush_span (side_of c s) c.size (port_at c k).size (across (side_of c s) (stands_at c s k order)) is.sound.size.width.above is.sound.size.height.above short (kept.flush_outside loose)
      ]

  port_near : InBox c.size (stands_at c s k order) (port_at c k).size
  port_near = in_box (side_of c s) c.size (stands_at c s k order) (port_at c k).size along_span across_span

-- ---- outlines

hull_span : (len a aw b bw : ℤ) → InSpan len a aw → InSpan len b bw → InSpan len (int_min a b) (hull_size a aw b bw)
hull_span len a aw b bw p q =
    let pl = p.low in
    let ph = p.high in
    let ql = q.low in
    let qh = q.high in
    record { low = omega (arith, ints, clamps, pl, ql); high = omega (arith, ints, clamps, ph, qh) }

span_long : (len z size : ℤ) → InSpan len z size → size ≤ℤ (len +ℤ pos (2 ^ 23))
span_long len z size s = let a = s.low in let b = s.high in omega (arith, ints, a, b)

own_span : (len : ℤ) → InSpan len (pos 0) len
own_span len = record { low = omega (arith, ints); high = omega (arith, ints) }

-- the ports of a child are short
abbrev pub HasShortPorts : Child → Type 0
HasShortPorts c = (k : ℕ) → k < length c.ports → IsSoundSize (port_at c k).size

module _ (l : PlainLevel) (p : PlainPlan) (o : Orders) (level : IsLevel l) (orders : AreOrders l p o) (c : ℕ) (there : c < length l.children) (short : HasShortPorts (child_at l c)) where
  port_in : (k : ℕ) → k < length (child_at l c).ports → InBox (child_at l c).size (port_place l p o c k) (port_at (child_at l c) k).size
  port_in k h =
      let is = level.children c there in
      let once : IsFalse (is_pinned (child_at l c) k) → HoldsOnce (o c (side_of (child_at l c) (port_spot l p c k))) k = λ free. held_once l p o c (port_spot l p c k) orders there (port_spot_there l p c k h) free in
      let kept = ports_stand.port (child_at l c) (port_spot l p c k) k (o c (side_of (child_at l c) (port_spot l p c k))) is.sound refl once in
      port_near (child_at l c) (port_spot l p c k) k (o c (side_of (child_at l c) (port_spot l p c k))) is h refl kept (short k h)

  outline_x : (ks : List ℕ) → ((k : ℕ) → Has ks k → k < length (child_at l c).ports) → InSpan (child_at l c).size.width (outline_from l p o c ks).x (outline_from l p o c ks).width
  outline_x [] h = own_span (child_at l c).size.width
  outline_x (k ∷ ks) h =
      hull_span (child_at l c).size.width (outline_from l p o c ks).x (outline_from l p o c ks).width (port_place l p o c k).x (port_at (child_at l c) k).size.width
      (outline_x ks (λ j has. h j (inr has))) (port_in k (h k (inl refl))).x

  outline_y : (ks : List ℕ) → ((k : ℕ) → Has ks k → k < length (child_at l c).ports) → InSpan (child_at l c).size.height (outline_from l p o c ks).y (outline_from l p o c ks).height
  outline_y [] h = own_span (child_at l c).size.height
  outline_y (k ∷ ks) h =
      hull_span (child_at l c).size.height (outline_from l p o c ks).y (outline_from l p o c ks).height (port_place l p o c k).y (port_at (child_at l c) k).size.height
      (outline_y ks (λ j has. h j (inr has))) (port_in k (h k (inl refl))).y

  all_there : (k : ℕ) → Has (range_with_len 0 (length (child_at l c).ports)) k → k < length (child_at l c).ports
  all_there k has = let r = (range_has 0 (length (child_at l c).ports) k has).1 in omega (arith, r)

  pub outline_wide : (outline l p o c).width ≤ℤ ((child_at l c).size.width +ℤ pos (2 ^ 23))
  outline_wide = span_long (child_at l c).size.width (outline l p o c).x (outline l p o c).width (outline_x (range_with_len 0 (length (child_at l c).ports)) all_there)

  pub outline_high : (outline l p o c).height ≤ℤ ((child_at l c).size.height +ℤ pos (2 ^ 23))
  outline_high = span_long (child_at l c).size.height (outline l p o c).y (outline l p o c).height (outline_y (range_with_len 0 (length (child_at l c).ports)) all_there)
