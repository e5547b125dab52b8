-- The columns of a level together are not wide: each is as wide as one of its outlines, and outlines are as wide as the sizes
-- of children and ports allow.
use Rattle.std.proofs.Common.{◌≡◌, ℕ, zero, suc, ◌+◌, ◌*◌, ◌<◌, ◌≤◌, ◌^◌, ◌==◌, ◌&&◌, not, cond, nat_lt, Bool, true, false, List, [], ◌∷◌, map, length, get_or, ℤ, pos, neg_ℤ, ◌+ℤ◌, ◌-ℤ◌, ◌≤ℤ◌, refl, sym, ◌∙◌, ap, subst, inl, inr, ◌⊎◌, ⊎_elim, arith, eq-eqb, ne_eqb, lt-ltb, ltb-true}
use Rattle.std.proofs.lemmas.Int.{ints, clamps}
use Rattle.std.proofs.lemmas.Bool.{cases_Bool, cases_order}
use Rattle.std.specs.Prelude.{Option, None, Some, IsFalse, slice_index_or}
use Rattle.std.specs.Int.{int_min, int_max}
use Rattle.std.specs.List.{range_with_len}
use Rattle.drawing_types.specs.declared.shape.Point.{Point}
use Rattle.drawing_types.specs.declared.shape.Size.{Size}
use Rattle.drawing_types.specs.declared.shape.Rect.{Rect}
use Rattle.drawing_types.specs.declared.shape.Side.{Side}
use Rattle.drawing_types.specs.declared.shape.Side.TheVariants.{North, East, South, West}
use Rattle.elk_doc.specs.declared.document.PortRule.TheVariants.{Free}
use Rattle.elk_doc.specs.declared.document.Direction.TheVariants.{Right}
use Rattle.drawing_types.specs.Shapes.{origin, no_size}
use Rattle.drawing_types.specs.Shapes.{rect_at}
use Rattle.elk_doc.specs.Sound.{along}
use Rattle.drawing_types.specs.Ranges.{IsWithin}
use Rattle.elk_doc.specs.PortsKept.{size_along, across, flush}
use Rattle.elk_layers.specs.Layered.{layer_of}
use Rattle.port_order.specs.declared.children.Child.{Child}
use Rattle.port_order.specs.declared.children.ChildPort.{ChildPort}
use Rattle.port_order.specs.declared.spots.Spot.{Spot}
use Rattle.port_order.specs.Child.{port_at, is_pinned, no_port}
use Rattle.port_order.specs.Sides.{side_of, side_else, given_side, given_to}
use Rattle.port_order.specs.Places.{HoldsOnce, place_of_port, dock_of}
use Rattle.port_order.specs.Laws.{KeepsPort, stands_at}
use Rattle.port_order.proofs.KeptLemmas.{ports_stand}
use Rattle.level_model.specs.Level.{PlainLevel, PlainPlan, Orders, child_at, port_spot, port_place, outline, outline_from}
use Rattle.level_model.specs.Conditions.{IsLevel, IsLevelChild, IsNear, sizes_of, sum_of_ints, total_width}
use Rattle.level_model.specs.Table.{child_in}
use Rattle.level_model.specs.Units.{AreOrders}
use Rattle.level_model.proofs.Lists.{Has, range_has}
use Rattle.level_model.proofs.SpotLemmas.{port_spot_there, held_once}
use Rattle.level_nets.specs.Parts.{Parts, plan_of, ArePlanned}
use Rattle.level_nets.specs.Read.{widest_of, width_of, columns_of}
use Rattle.level_nets.specs.Reach.{AreColumnsIn}

-- ---- how far a port reaches beyond its child's box

-- from so far before 0 to so far behind a length
record InSpan (far length z size : ℤ) : Type 0 where
  low : neg_ℤ far ≤ℤ z
  high : (z +ℤ size) ≤ℤ (length +ℤ far)

given_span : (len m w z : ℤ) → pos 0 ≤ℤ w → w ≤ℤ m → IsNear len z → InSpan (pos (2 ^ 21) +ℤ m) len z w
given_span len m w z w0 wm near =
    let a = near.above in
    let b = near.below in
    record { low = omega (arith, ints, a, w0, wm); high = omega (arith, ints, b, wm) }

spread_span : (len m w half offset : ℤ) → w ≤ℤ m → IsWithin (pos 0) w half → IsWithin (pos 0) len offset → InSpan (pos (2 ^ 21) +ℤ m) len (offset -ℤ half) w
spread_span len m w half offset wm half_in offset_in =
    let a = half_in.above in
    let b = half_in.below in
    let c = offset_in.above in
    let d = offset_in.below in
    record { low = omega (arith, ints, a, b, c, wm); high = omega (arith, ints, a, b, d, wm) }

behind_span : (len m w z : ℤ) → pos 0 ≤ℤ len → pos 0 ≤ℤ w → w ≤ℤ m → z ≡ len → InSpan (pos (2 ^ 21) +ℤ m) len z w
behind_span len m w z l0 w0 wm e = record { low = omega (arith, ints, l0, w0, wm, e); high = omega (arith, ints, wm, e) }

before_span : (len m w z : ℤ) → pos 0 ≤ℤ len → pos 0 ≤ℤ w → w ≤ℤ m → z ≡ neg_ℤ w → InSpan (pos (2 ^ 21) +ℤ m) len z w
before_span len m w z l0 w0 wm e = record { low = omega (arith, ints, wm, e); high = omega (arith, ints, l0, w0, wm, e) }

-- a side above or below the box is given, and does not depend on the flow of edges
upright_given : (o : Option Side) (b : Bool) (side : Side) → side_else o b ≡ side → (side ≡ North) ⊎ (side ≡ South) → side_else o false ≡ side
upright_given (Some s) b side e up = e
upright_given None true side e up = absurd (⊎_elim (λ n. let bad : West ≡ North = e ∙ n in absurd cc) (λ n. let bad : West ≡ South = e ∙ n in absurd cc) up)
upright_given None false side e up = e

module _ (c : Child) (s : Spot) (k : ℕ) (order : List ℕ) (m : ℤ) (is : IsLevelChild c) (there : k < length c.ports) (port : s.port ≡ Some k) (kept : KeepsPort c s k order) (most : (port_at c k).size.width ≤ℤ m) where
  abbrev w : ℤ
  w = (port_at c k).size.width

  abbrev bw : ℤ
  bw = c.size.width

  abbrev at : Point
  at = stands_at c s k order

  wide : pos 0 ≤ℤ w
  wide = (is.sound.ports k there).size.width.above

  box_wide : pos 0 ≤ℤ bw
  box_wide = is.sound.size.width.above

  abbrev Reaches : Type 0
  Reaches = InSpan (pos (2 ^ 21) +ℤ m) (c.size.width) (stands_at c s k order).x (port_at c k).size.width

  given_of : side_of c s ≡ side_else (given_side c k) (s.enters && not s.leaves)
  given_of = ap (λ (o : Option ℕ). side_else (given_to c o) (s.enters && not s.leaves)) port

  -- along the north or the south side
  upright : (side : Side) → side_of c s ≡ side → (side ≡ North) ⊎ (side ≡ South) → along side at ≡ at.x → along side (port_at c k).place ≡ (port_at c k).place.x → size_along side c.size ≡ bw
      → size_along side (port_at c k).size ≡ w → at.x ≡ (dock_of c s order) -ℤ (port_at c k).half → Reaches
  upright side on up at_x given_x len_x size_x start =
      let own : side_else (given_side c k) false ≡ side = upright_given (given_side c k) (s.enters && not s.leaves) side (sym given_of ∙ on) up in
      elim (cases_Bool (is_pinned c k)) [
        | inl pinned ↦
            let same : at.x ≡ (port_at c k).place.x = sym at_x ∙ subst (λ q. along q at ≡ along q (port_at c k).place) on (kept.along_kept pinned) ∙ given_x in
            let near : IsNear bw (port_at c k).place.x = subst (λ z. IsNear z (port_at c k).place.x) len_x
            (subst (IsNear (size_along side c.size)) given_x (subst (λ q. IsNear (size_along q c.size) (along q (port_at c k).place)) own ((is.near k there).pinned pinned))) in
            subst (λ z. InSpan (pos (2 ^ 21) +ℤ m) bw z w) (sym same) (given_span bw m w (port_at c k).place.x wide most near)
        | inr free ↦
            let half : IsWithin (pos 0) w (port_at c k).half = subst (λ z. IsWithin (pos 0) z (port_at c k).half) size_x (subst (λ q. IsWithin (pos 0) (size_along q (port_at c k).size) (port_at c k).half) own (is.sound.ports k there).half) in
            let offset : IsWithin (pos 0) bw (dock_of c s order) = subst (λ z. IsWithin (pos 0) z (dock_of c s order)) len_x (subst (λ q. IsWithin (pos 0) (size_along q c.size) (dock_of c s order)) on (kept.on_side free)) in
            subst (λ z. InSpan (pos (2 ^ 21) +ℤ m) bw z w) (sym start) (spread_span bw m w (port_at c k).half (dock_of c s order) most half offset)
      ]

  -- beside the box
  beside : (side : Side) → side_of c s ≡ side → across side at ≡ at.x → across side (port_at c k).place ≡ (port_at c k).place.x
      → (flush side (rect_at origin c.size) (port_at c k).size ≡ at.x → Reaches) → Reaches
  beside side on at_x given_x loose =
      elim (cases_Bool (is_pinned c k && not c.compound)) [
        | inl fixed ↦
            let same : at.x ≡ (port_at c k).place.x = sym at_x ∙ subst (λ q. across q at ≡ across q (port_at c k).place) on (kept.across_kept fixed) ∙ given_x in
            let leaf : c.compound ≡ false = leaf_of (is_pinned c k) c.compound fixed in
            subst (λ z. InSpan (pos (2 ^ 21) +ℤ m) bw z w) (sym same) (given_span bw m w (port_at c k).place.x wide most ((is.near k there).leaf_x leaf))
        | inr free ↦ loose (sym (subst (λ q. across q at ≡ flush q (rect_at origin c.size) (port_at c k).size) on (kept.flush_outside free)) ∙ at_x)
      ]
    where
      leaf_of : (a b : Bool) → (a && not b) ≡ true → b ≡ false
      leaf_of true true h = absurd cc
      leaf_of true false h = refl
      leaf_of false b h = absurd cc

  port_reaches : Reaches
  port_reaches = by_side (side_of c s) refl
    where
      by_side : (side : Side) → side_of c s ≡ side → Reaches
      by_side North on = upright North on (inl refl) refl refl refl refl (ap (λ q. (place_of_port c q k (dock_of c s order)).x) on)
      by_side South on = upright South on (inr refl) refl refl refl refl (ap (λ q. (place_of_port c q k (dock_of c s order)).x) on)
      by_side East on = beside East on refl refl (λ e. behind_span bw m w at.x box_wide wide most (sym e))
      by_side West on = beside West on refl refl (λ e. before_span bw m w at.x box_wide wide most (sym e))

-- ---- outlines

hull_span : (far len a aw b bw : ℤ) → InSpan far len a aw → InSpan far len b bw → InSpan far len (int_min a b) (int_max (a +ℤ aw) (b +ℤ bw) -ℤ int_min a b)
hull_span far len a aw b bw p q =
    let pl = p.low in
    let ph = p.high in
    let ql = q.low in
    let qh = q.high in
    record { low = omega (arith, ints, clamps, pl, ql); high = omega (arith, ints, clamps, ph, qh) }

span_width : (far len z size : ℤ) → InSpan far len z size → size ≤ℤ (len +ℤ far +ℤ far)
span_width far len z size s = let a = s.low in let b = s.high in omega (arith, ints, a, b)

sum_least : (f : Size → ℤ) (ss : List Size) → ((k : ℕ) → k < length ss → pos 0 ≤ℤ f (slice_index_or ss k no_size)) → pos 0 ≤ℤ sum_of_ints (map f ss)
sum_least f [] h = omega (arith, ints)
sum_least f (s ∷ ss) h =
    let here = h 0 (omega arith) in
    let rest = sum_least f ss (λ k less. h (suc k) (omega (arith, less))) in
    omega (arith, ints, here, rest)

part_most : (f : Size → ℤ) (ss : List Size) (k : ℕ) → ((k : ℕ) → k < length ss → pos 0 ≤ℤ f (slice_index_or ss k no_size)) → k < length ss → f (slice_index_or ss k no_size) ≤ℤ sum_of_ints (map f ss)
part_most f [] k h less = absurd (omega (arith, less))
part_most f (s ∷ ss) zero h less = let rest = sum_least f ss (λ k l. h (suc k) (omega (arith, l))) in omega (arith, ints, rest)
part_most f (s ∷ ss) (suc k) h less =
    let here = h 0 (omega arith) in
    let rest = part_most f ss k (λ j l. h (suc j) (omega (arith, l))) (omega (arith, less)) in
    omega (arith, ints, here, rest)

abbrev port_sizes : Child → List Size
port_sizes c = map (λ (q : ChildPort). q.size) c.ports

size_there : (ps : List ChildPort) (k : ℕ) → slice_index_or (map (λ (q : ChildPort). q.size) ps) k no_size ≡ (slice_index_or ps k no_port).size
size_there [] k = refl
size_there (p ∷ ps) zero = refl
size_there (p ∷ ps) (suc k) = size_there ps k

sizes_long : (ps : List ChildPort) → length (map (λ (q : ChildPort). q.size) ps) ≡ length ps
sizes_long [] = refl
sizes_long (p ∷ ps) = let h = sizes_long ps in omega (arith, h)

-- the widths of a child's ports together
abbrev ports_wide : Child → ℤ
ports_wide c = sum_of_ints (map (λ (s : Size). s.width) (port_sizes c))

widths_least : (c : Child) → IsLevelChild c → (k : ℕ) → k < length (port_sizes c) → pos 0 ≤ℤ (slice_index_or (port_sizes c) k no_size).width
widths_least c is k h =
    let long = sizes_long c.ports in
    subst (λ (s : Size). pos 0 ≤ℤ s.width) (sym (size_there c.ports k)) (is.sound.ports k (omega (arith, h, long))).size.width.above

module _ (l : PlainLevel) (p : PlainPlan) (o : Orders) (level : IsLevel l) (orders : AreOrders l p o) (c : ℕ) (there : c < length l.children) where
  abbrev far : ℤ
  far = pos (2 ^ 21) +ℤ ports_wide (child_at l c)

  ports_least : pos 0 ≤ℤ ports_wide (child_at l c)
  ports_least = sum_least (λ s. s.width) (port_sizes (child_at l c)) (widths_least (child_at l c) (level.children c there))

  port_in : (k : ℕ) → k < length (child_at l c).ports → InSpan (pos (2 ^ 21) +ℤ ports_wide (child_at l c)) (child_at l c).size.width (port_place l p o c k).x (port_at (child_at l c) k).size.width
  port_in k h =
      let is = level.children c there in
      let long = sizes_long (child_at l c).ports in
      let once : IsFalse (is_pinned (child_at l c) k) → HoldsOnce (o c (side_of (child_at l c) (port_spot l p c k))) k = λ free. held_once l p o c (port_spot l p c k) orders there (port_spot_there l p c k h) free in
      let kept = ports_stand.port (child_at l c) (port_spot l p c k) k (o c (side_of (child_at l c) (port_spot l p c k))) is.sound refl once in
      let most = part_most (λ s. s.width) (port_sizes (child_at l c)) k (widths_least (child_at l c) is) (omega (arith, h, long)) in
      port_reaches (child_at l c) (port_spot l p c k) k (o c (side_of (child_at l c) (port_spot l p c k))) (ports_wide (child_at l c)) is h refl kept
      (subst (λ (s : Size). s.width ≤ℤ ports_wide (child_at l c)) (size_there (child_at l c).ports k) most)

  outline_in : (ks : List ℕ) → ((k : ℕ) → Has ks k → k < length (child_at l c).ports)
      → InSpan (pos (2 ^ 21) +ℤ ports_wide (child_at l c)) (child_at l c).size.width (outline_from l p o c ks).x (outline_from l p o c ks).width
  outline_in [] h = let m = ports_least in record { low = omega (arith, ints, m); high = omega (arith, ints, m) }
  outline_in (k ∷ ks) h =
      hull_span far (child_at l c).size.width (outline_from l p o c ks).x (outline_from l p o c ks).width (port_place l p o c k).x (port_at (child_at l c) k).size.width
      (outline_in ks (λ j has. h j (inr has))) (port_in k (h k (inl refl)))

  pub outline_width : (outline l p o c).width ≤ℤ (pos (2 ^ 22) +ℤ sum_of_ints (map (λ (s : Size). s.width) (sizes_of (child_at l c))) +ℤ sum_of_ints (map (λ (s : Size). s.width) (sizes_of (child_at l c))))
  outline_width =
      let bw = (level.children c there).sound.size.width.above in
      let span = outline_in (range_with_len 0 (length (child_at l c).ports)) (λ k has. let r = (range_has 0 (length (child_at l c).ports) k has).1 in omega (arith, r)) in
      let w = span_width far (child_at l c).size.width (outline l p o c).x (outline l p o c).width span in
      doubled (outline l p o c).width (child_at l c).size.width (ports_wide (child_at l c)) bw w
    where
      doubled : (z b m : ℤ) → pos 0 ≤ℤ b → z ≤ℤ (b +ℤ (pos (2 ^ 21) +ℤ m) +ℤ (pos (2 ^ 21) +ℤ m)) → z ≤ℤ (pos (2 ^ 22) +ℤ (b +ℤ m) +ℤ (b +ℤ m))
      doubled z b m b0 h = omega (arith, ints, b0, h)

  span_least : (ks : List ℕ) → ((k : ℕ) → Has ks k → k < length (child_at l c).ports) → pos 0 ≤ℤ (outline_from l p o c ks).width
  span_least [] h = (level.children c there).sound.size.width.above
  span_least (k ∷ ks) h =
      let a = span_least ks (λ j has. h j (inr has)) in
      hull_least (outline_from l p o c ks).x (outline_from l p o c ks).width (port_place l p o c k).x (port_at (child_at l c) k).size.width a
    where
      hull_least : (a aw b bw : ℤ) → pos 0 ≤ℤ aw → pos 0 ≤ℤ (int_max (a +ℤ aw) (b +ℤ bw) -ℤ int_min a b)
      hull_least a aw b bw h = omega (arith, ints, clamps, h)

  pub outline_least : pos 0 ≤ℤ (outline l p o c).width
  outline_least = span_least (range_with_len 0 (length (child_at l c).ports)) (λ k has. let r = (range_has 0 (length (child_at l c).ports) k has).1 in omega (arith, r))

-- ---- sums over children

not_less : (a b : ℕ) → b ≤ a → nat_lt a b ≡ false
not_less a b h = elim (cases_Bool (nat_lt a b)) [
  | inl t ↦ let less = ltb-true a b t in absurd (omega (arith, h, less))
  | inr f ↦ f
]

abbrev sum_over : (ℕ → ℤ) → List ℕ → ℤ
sum_over f [] = pos 0
sum_over f (c ∷ cs) = f c +ℤ sum_over f cs

abbrev kept_of : (ℕ → Bool) → (ℕ → ℤ) → ℕ → ℤ
kept_of test f c = cond (test c) (f c) (pos 0)

sums_add : (f g h : ℕ → ℤ) (cs : List ℕ) → ((c : ℕ) → Has cs c → f c +ℤ g c ≡ h c) → sum_over f cs +ℤ sum_over g cs ≡ sum_over h cs
sums_add f g h [] e = omega (arith, ints)
sums_add f g h (c ∷ cs) e =
    let here = e c (inl refl) in
    let rest = sums_add f g h cs (λ k has. e k (inr has)) in
    omega (arith, ints, here, rest)

sums_le : (f g : ℕ → ℤ) (cs : List ℕ) → ((c : ℕ) → Has cs c → f c ≤ℤ g c) → sum_over f cs ≤ℤ sum_over g cs
sums_le f g [] h = omega (arith, ints)
sums_le f g (c ∷ cs) h =
    let here = h c (inl refl) in
    let rest = sums_le f g cs (λ k has. h k (inr has)) in
    omega (arith, ints, here, rest)

kept_le : (b : Bool) (z : ℤ) → pos 0 ≤ℤ z → cond b z (pos 0) ≤ℤ z
kept_le true z h = omega (arith, ints)
kept_le false z h = h

-- the widths of all children and what their ports add
total_le : (cs : List Child) (W : ℕ → ℤ) (k : ℕ) (d : Child) → ((i : ℕ) → i < length cs → W (k + i) ≤ℤ (pos (2 ^ 22) +ℤ sum_of_ints (map (λ (s : Size). s.width) (sizes_of (get_or cs i d))) +ℤ sum_of_ints (map (λ (s : Size). s.width) (sizes_of (get_or cs i d)))))
    → sum_over W (range_with_len k (length cs)) ≤ℤ (pos (length cs * 2 ^ 22) +ℤ total_width cs +ℤ total_width cs)
total_le [] W k d h = omega (arith, ints)
total_le (c ∷ cs) W k d h =
    let zero_more : k + 0 ≡ k = omega arith in
    let here = subst (λ i. W i ≤ℤ (pos (2 ^ 22) +ℤ sum_of_ints (map (λ (s : Size). s.width) (sizes_of c)) +ℤ sum_of_ints (map (λ (s : Size). s.width) (sizes_of c)))) zero_more (h 0 (omega arith)) in
    let rest = total_le cs W (k + 1) d (λ i less. let next : k + suc i ≡ k + 1 + i = omega arith in subst (λ j. W j ≤ℤ (pos (2 ^ 22) +ℤ sum_of_ints (map (λ (s : Size). s.width) (sizes_of (get_or cs i d))) +ℤ sum_of_ints (map (λ (s : Size). s.width) (sizes_of (get_or cs i d))))) next (h (suc i) (omega (arith, less)))) in
    add_one (W k) (sum_of_ints (map (λ (s : Size). s.width) (sizes_of c))) (sum_over W (range_with_len (k + 1) (length cs))) (total_width cs) (length cs) here rest
  where
    add_one : (a s b t : ℤ) (n : ℕ) → a ≤ℤ (pos (2 ^ 22) +ℤ s +ℤ s) → b ≤ℤ (pos (n * 2 ^ 22) +ℤ t +ℤ t) → (a +ℤ b) ≤ℤ (pos (suc n * 2 ^ 22) +ℤ (s +ℤ t) +ℤ (s +ℤ t))
    add_one a s b t n h k = omega (arith, ints, h, k)

-- ---- columns

module _ (s : Parts) (rows : List (List ℕ)) (o : Orders) (layers : List ℕ) (planned : ArePlanned s rows o layers) where
  abbrev W : ℕ → ℤ
  W c = (child_in s.table.children c).outline.width

  abbrev layer : ℕ → ℕ
  layer c = layer_of s.layered (child_in s.table.children c).unit

  abbrev all : List ℕ
  all = range_with_len 0 (length s.level.children)

  in_all : (c : ℕ) → Has (range_with_len 0 (length s.level.children)) c → c < length s.level.children
  in_all c has = let r = (range_has 0 (length s.level.children) c has).1 in omega (arith, r)

  width_is : (c : ℕ) → c < length s.level.children → W c ≡ (outline s.level (plan_of s rows) o c).width
  width_is c h = ap (λ (r : Rect). r.width) (planned.table.children c h).outline_is

  width_least : (c : ℕ) → c < length s.level.children → pos 0 ≤ℤ W c
  width_least c h = subst (λ z. pos 0 ≤ℤ z) (sym (width_is c h)) (outline_least s.level (plan_of s rows) o planned.ready.level planned.ready.units.orders c h)

  widest_in : (r : ℕ) (cs : List ℕ) → ((c : ℕ) → Has cs c → pos 0 ≤ℤ W c) → (pos 0 ≤ℤ widest_of s r cs) × (widest_of s r cs ≤ℤ sum_over (kept_of (λ c. layer c == r) W) cs)
  widest_in r [] h = (omega (arith, ints), omega (arith, ints))
  widest_in r (c ∷ cs) h =
      let here = h c (inl refl) in
      let rest = widest_in r cs (λ k has. h k (inr has)) in
      elim (cases_Bool (layer c == r)) [
        | inl t ↦ rw t (of_two (W c) (widest_of s r cs) (sum_over (kept_of (λ c. layer c == r) W) cs) here rest.0 rest.1)
        | inr f ↦ rw f (rest.0, none_more (widest_of s r cs) (sum_over (kept_of (λ c. layer c == r) W) cs) rest.1)
      ]
    where
      of_two : (a b t : ℤ) → pos 0 ≤ℤ a → pos 0 ≤ℤ b → b ≤ℤ t → (pos 0 ≤ℤ int_max a b) × (int_max a b ≤ℤ (a +ℤ t))
      of_two a b t h k m = (omega (arith, ints, clamps, h, k), omega (arith, ints, clamps, h, k, m))

      none_more : (b t : ℤ) → b ≤ℤ t → b ≤ℤ (pos 0 +ℤ t)
      none_more b t h = omega (arith, ints, h)

  one_more : (r c : ℕ) → kept_of (λ c. nat_lt (layer c) r) W c +ℤ kept_of (λ c. layer c == r) W c ≡ kept_of (λ c. nat_lt (layer c) (suc r)) W c
  one_more r c = by_order (layer c) (W c) (cases_order (layer c) r)
    where
      by_order : (n : ℕ) (z : ℤ) → (n ≡ r) ⊎ ((n < r) ⊎ (r < n)) → cond (nat_lt n r) z (pos 0) +ℤ cond (n == r) z (pos 0) ≡ cond (nat_lt n (suc r)) z (pos 0)
      by_order n z (inl e) = rw (not_less n r (omega (arith, e)), eq-eqb n r e, lt-ltb n (suc r) (omega (arith, e))) (omega (arith, ints))
      by_order n z (inr (inl less)) = rw (lt-ltb n r less, ne_eqb n r (λ e. omega (arith, e, less)), lt-ltb n (suc r) (omega (arith, less))) (omega (arith, ints))
      by_order n z (inr (inr more)) = rw (not_less n r (omega (arith, more)), ne_eqb n r (λ e. omega (arith, e, more)), not_less n (suc r) (omega (arith, more))) (omega (arith, ints))

  columns_le : (g : ℕ) → (pos 0 ≤ℤ columns_of s g) × (columns_of s g ≤ℤ sum_over (kept_of (λ c. nat_lt (layer c) g) W) all)
  unfolding columns_of width_of
  columns_le zero = (omega (arith, ints), none all)
    where
      none : (cs : List ℕ) → pos 0 ≤ℤ sum_over (kept_of (λ c. nat_lt (layer c) 0) W) cs
      none [] = omega (arith, ints)
      none (c ∷ cs) = let h = none cs in rw (not_less (layer c) 0 (omega arith)) (omega (arith, ints, h))
  columns_le (suc r) =
      let before = columns_le r in
      let here = widest_in r all (λ c has. width_least c (in_all c has)) in
      let sum = sums_add (kept_of (λ c. nat_lt (layer c) r) W) (kept_of (λ c. layer c == r) W) (kept_of (λ c. nat_lt (layer c) (suc r)) W) all (λ c has. one_more r c) in
      add (columns_of s r) (widest_of s r all) _ _ _ before.0 before.1 here.0 here.1 sum
    where
      add : (a b x y z : ℤ) → pos 0 ≤ℤ a → a ≤ℤ x → pos 0 ≤ℤ b → b ≤ℤ y → x +ℤ y ≡ z → (pos 0 ≤ℤ (a +ℤ b)) × ((a +ℤ b) ≤ℤ z)
      add a b x y z h k m n e = (omega (arith, ints, h, m), omega (arith, ints, k, n, e))

  pub columns_in : AreColumnsIn s
  columns_in g less =
      let found = columns_le g in
      let level = planned.ready.level in
      let few = level.few_children in
      let wide = level.widths in
      let most = sums_le (kept_of (λ c. nat_lt (layer c) g) W) W all (λ c has. kept_le (nat_lt (layer c) g) (W c) (width_least c (in_all c has))) in
      let total = total_le s.level.children W 0 (record { size = no_size; compound = false; rule = Free; direction = Right; position = None; ports = [] }) (λ i h. wide_one i h) in
      (found.0, bound (columns_of s g) _ _ (total_width s.level.children) (length s.level.children) found.1 most total few wide)
    where
      wide_one : (i : ℕ) → i < length s.level.children → W (0 + i) ≤ℤ (pos (2 ^ 22) +ℤ sum_of_ints (map (λ (q : Size). q.width) (sizes_of (child_at s.level i))) +ℤ sum_of_ints (map (λ (q : Size). q.width) (sizes_of (child_at s.level i))))
      wide_one i h =
          let none : 0 + i ≡ i = omega arith in
          subst (λ j. W j ≤ℤ (pos (2 ^ 22) +ℤ sum_of_ints (map (λ (q : Size). q.width) (sizes_of (child_at s.level i))) +ℤ sum_of_ints (map (λ (q : Size). q.width) (sizes_of (child_at s.level i))))) (sym none)
          (subst (λ z. z ≤ℤ (pos (2 ^ 22) +ℤ sum_of_ints (map (λ (q : Size). q.width) (sizes_of (child_at s.level i))) +ℤ sum_of_ints (map (λ (q : Size). q.width) (sizes_of (child_at s.level i))))) (sym (width_is i h))
          (outline_width s.level (plan_of s rows) o planned.ready.level planned.ready.units.orders i h))

      bound : (z a b t : ℤ) (n : ℕ) → z ≤ℤ a → a ≤ℤ b → b ≤ℤ (pos (n * 2 ^ 22) +ℤ t +ℤ t) → n ≤ 2048 → t ≤ℤ pos (2 ^ 46) → z ≤ℤ pos (2 ^ 48)
      bound z a b t n h k m few wide = omega (arith, ints, h, k, m, few, wide)
