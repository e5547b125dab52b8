-- Units that are closed up stand as their layers do.
use Rattle.std.proofs.Common.{◌≡◌, ℕ, suc, ◌<◌, ◌≤◌, ◌^◌, ℤ, pos, negsuc, ◌+ℤ◌, ◌-ℤ◌, ◌≤ℤ◌, List, [], ◌∷◌, length, map, get_or, arith, refl, inl, inr}
use Rattle.std.proofs.lemmas.Int.{ints, clamps}
use Rattle.std.proofs.lemmas.Bool.{cases_lt}
use Rattle.std.specs.List.{All, sum_by}
use Rattle.std.proofs.lemmas.List.{get_or-map, length-map}
use Rattle.std.proofs.lemmas.List.Elements.{All-from_get_or}
use Rattle.std.proofs.lemmas.List.Sums.{sum_by-cons}
use Rattle.elk_layers.specs.declared.units.Unit.{Unit as LayerUnit}
use Rattle.elk_layers.specs.Layered.{Plain, IsSound, unit_at, link_at}
use Rattle.elk_layers.proofs.HeightLemmas.{height_below}
use Rattle.elk_layers.specs.Lines.{top_of}
use Rattle.unit_blocks.specs.Constraints.{greatest_spacing, stacked_height}
use Rattle.unit_blocks.proofs.SumLemmas.{stacked_bound}
use Rattle.ns_place.specs.declared.closing.Standing.{Standing}
use Rattle.ns_place.specs.Heights.{size, IsNearLink}
use Rattle.ns_place.specs.Closing.{standing_at, StaysApart, AreStandings, IsClosedUp}
use Rattle.ns_place.specs.Tops.{AreClosedTops}

-- in plain numbers

apart_kept : (x y sx sy cx cy : ℕ) (far : ℤ) → (x ≤ y → StaysApart x sx y cx cy) → (y ≤ x → StaysApart y sy x cy cx) → far ≤ℤ pos sx → (pos x +ℤ far) ≤ℤ pos y → (pos cx +ℤ far) ≤ℤ pos cy
apart_kept x y sx sy cx cy far up down short h = elim (cases_lt y x) [
  | inl k ↦ let s = (down (omega (arith, k))).no_wider in omega (arith, ints, s, h)
  | inr k ↦ elim (up k).kept [
    | inl a ↦ omega (arith, ints, a, h)
    | inr b ↦ omega (arith, ints, b, short)
  ]
]

size_within : (z : ℤ) (n : ℕ) → z ≤ℤ pos n → pos 0 ≤ℤ (z +ℤ pos n) → size z ≤ n
size_within (pos m) n h k = omega (arith, ints, h)
size_within (negsuc m) n h k = omega (arith, ints, k)

size_above : (z : ℤ) → (z ≤ℤ pos (size z)) × (pos 0 ≤ℤ (z +ℤ pos (size z)))
size_above (pos m) = (omega (arith, ints), omega (arith, ints))
size_above (negsuc m) = (omega (arith, ints), omega (arith, ints))

-- the lower one of two ends is no further below than before
low_kept : (x y sx cx cy : ℕ) (a b : ℤ) → StaysApart x sx y cx cy → pos 0 ≤ℤ b → a ≤ℤ pos sx → size ((pos cy +ℤ b) -ℤ (pos cx +ℤ a)) ≤ size ((pos y +ℤ b) -ℤ (pos x +ℤ a))
low_kept x y sx cx cy a b s low short =
    let w = s.no_wider in
    let z = size_above ((pos y +ℤ b) -ℤ (pos x +ℤ a)) in
    let p = z.0 in
    let q = z.1 in
    size_within ((pos cy +ℤ b) -ℤ (pos cx +ℤ a)) (size ((pos y +ℤ b) -ℤ (pos x +ℤ a))) (omega (arith, ints, w, p))
    (elim s.kept [
      | inl k ↦ omega (arith, ints, k, q)
      | inr k ↦ omega (arith, ints, k, low, short)
    ])

high_kept : (x y sx cx cy : ℕ) (a b : ℤ) → StaysApart x sx y cx cy → pos 0 ≤ℤ b → a ≤ℤ pos sx → size ((pos cx +ℤ a) -ℤ (pos cy +ℤ b)) ≤ size ((pos x +ℤ a) -ℤ (pos y +ℤ b))
high_kept x y sx cx cy a b s low short =
    let w = s.no_wider in
    let z = size_above ((pos x +ℤ a) -ℤ (pos y +ℤ b)) in
    let p = z.0 in
    let q = z.1 in
    size_within ((pos cx +ℤ a) -ℤ (pos cy +ℤ b)) (size ((pos x +ℤ a) -ℤ (pos y +ℤ b)))
    (elim s.kept [
      | inl k ↦ omega (arith, ints, k, p)
      | inr k ↦ omega (arith, ints, k, low, short)
    ])
    (omega (arith, ints, w, q))

height_kept : (x y sx sy cx cy : ℕ) (a b : ℤ) → (x ≤ y → StaysApart x sx y cx cy) → (y ≤ x → StaysApart y sy x cy cx) → pos 0 ≤ℤ a → a ≤ℤ pos sx → pos 0 ≤ℤ b → b ≤ℤ pos sy
    → size ((pos cy +ℤ b) -ℤ (pos cx +ℤ a)) ≤ size ((pos y +ℤ b) -ℤ (pos x +ℤ a))
height_kept x y sx sy cx cy a b up down la ha lb hb = elim (cases_lt y x) [
  | inl k ↦ high_kept y x sy cy cx b a (down (omega (arith, k))) la hb
  | inr k ↦ low_kept x y sx cx cy a b (up k) lb ha
]

pub spans_sum : (units : List LayerUnit) (all : List Standing) (s : ℤ) → length all ≡ length units → ((u : ℕ) → u < length units → pos (standing_at all u).span ≡ (unit_at units u).height +ℤ s)
    → pos (sum_by (λ (x : Standing). x.span) all) ≡ stacked_height s units
spans_sum [] [] s long is = refl
spans_sum [] (x ∷ all) s long is = absurd (omega (arith, long))
spans_sum (u ∷ units) [] s long is = absurd (omega (arith, long))
spans_sum (u ∷ units) (x ∷ all) s long is =
    let rest = spans_sum units all s (omega (arith, long)) (λ k h. is (suc k) (omega (arith, h))) in
    let here = is 0 (omega arith) in
    let c = sum_by-cons (λ (y : Standing). y.span) x all in
    omega (arith, ints, rest, here, c)

pub spacing_bounds : (l : Plain) → IsSound l → (pos 1 ≤ℤ greatest_spacing l) × (greatest_spacing l ≤ℤ pos (2 ^ 20))
spacing_bounds l s =
    let a = s.node_node_is.low in
    let x = s.node_node_is.high in
    let y = s.edge_node_is.high in
    let z = s.edge_edge_is.high in
    (omega (arith, ints, clamps, a), omega (arith, ints, clamps, x, y, z))

pub stack_small : (l : Plain) → IsSound l → stacked_height (greatest_spacing l) l.units ≤ℤ pos (2 ^ 57)
stack_small l s =
    let b = stacked_bound (greatest_spacing l) l.units (spacing_bounds l s).1 in
    let c = s.together in
    let d = s.few_units in
    omega (arith, ints, b, c, d)

-- the ends of links are near
pub near_links : (l : Plain) (layers tops : List ℤ) → IsSound l → AreClosedTops l layers tops → All (IsNearLink tops) l.links
near_links l layers tops s c =
    All-from_get_or (IsNearLink tops) l.links (record { edge = 0; tail = 0; head = 0; tail_rank = 0; head_rank = 0; tail_at = pos 0; head_at = pos 0 })
    (λ k h.
    let e = s.links_are k h in
    let long = c.as_many in
    let small = stack_small l s in
    let t = e.tail in
    let u = e.head in
    let at = c.within (link_at l.links k).tail t in
    let au = c.within (link_at l.links k).head u in
    let ht = s.heights (link_at l.links k).tail t in
    let hu = s.heights (link_at l.links k).head u in
    let bt = height_below l s (link_at l.links k).tail t in
    let bu = height_below l s (link_at l.links k).head u in
    let p = e.tail_at.1 in
    let q = e.head_at.1 in
    record {
      tail = omega (arith, long, t);
      head = omega (arith, long, u);
      tail_top = (c.from_zero (link_at l.links k).tail t, omega (arith, ints, at, small, ht));
      head_top = (c.from_zero (link_at l.links k).head u, omega (arith, ints, au, small, hu));
      tail_at = (e.tail_at.0, omega (arith, ints, p, bt));
      head_at = (e.head_at.0, omega (arith, ints, q, bu));
    })

module _ (l : Plain) (layers : List ℤ) (all : List Standing) (closed : List ℕ) (sound : IsSound l) (stands : AreStandings l.units layers (greatest_spacing l) all) where
  pub spans_small : sum_by (λ (x : Standing). x.span) all < 2 ^ 60
  spans_small =
      let a = spans_sum l.units all (greatest_spacing l) stands.as_many (λ u h. (stands.stands u h).span_is) in
      let b = stack_small l sound in
      omega (arith, ints, a, b)

  module _ (up : IsClosedUp all closed) where
    abbrev here : ℕ → ℕ
    here u = get_or closed u 0

    abbrev tops : List ℤ
    tops = map pos closed

    top_is : (u : ℕ) → u < length l.units → top_of (map pos closed) u ≡ pos (get_or closed u 0)
    top_is u h = let a = stands.as_many in let b = up.as_many in get_or-map pos closed u 0 (pos 0) (omega (arith, a, b, h))

    stays : (u v : ℕ) → u < length l.units → v < length l.units → (standing_at all u).top ≤ (standing_at all v).top → StaysApart (standing_at all u).top (standing_at all u).span (standing_at all v).top (get_or closed u 0) (get_or closed v 0)
    stays u v hu hv = let a = stands.as_many in up.apart u v (omega (arith, a, hu)) (omega (arith, a, hv))

    pub closed_small : All (λ n. n < 2 ^ 63) closed
    closed_small = All-from_get_or (λ n. n < 2 ^ 63) closed 0 (λ u h. let a = up.within u (let e = up.as_many in omega (arith, e, h)) in let b = spans_small in omega (arith, a, b))

    pub closed_tops : AreClosedTops l layers (map pos closed)
    closed_tops =
        record {
          as_many = let a = stands.as_many in let b = up.as_many in let c = length-map closed pos in omega (arith, a, b, c);
          from_zero = λ u h. rw (top_is u h) (omega (arith, ints));
          apart = λ u v far hu hv short k.
              let su = stands.stands u hu in
              let sv = stands.stands v hv in
              let a = su.top_is in
              let b = sv.top_is in
              let c = su.span_is in
              rw (top_is u hu, top_is v hv)
              (apart_kept (standing_at all u).top (standing_at all v).top (standing_at all u).span (standing_at all v).span (get_or closed u 0) (get_or closed v 0) far (stays u v hu hv) (stays v u hv hu) (omega (arith, ints, c, short)) (omega (arith, ints, a, b, k)));
          not_higher = λ k ht hh pt ph.
              let st = stands.stands k.tail ht in
              let sh = stands.stands k.head hh in
              let a = st.span_is in
              let b = sh.span_is in
              let low = (spacing_bounds l sound).0 in
              let p = pt.1 in
              let q = ph.1 in
              let more = height_kept (standing_at all k.tail).top (standing_at all k.head).top (standing_at all k.tail).span (standing_at all k.head).span (get_or closed k.tail 0) (get_or closed k.head 0) k.tail_at k.head_at
              (stays k.tail k.head ht hh) (stays k.head k.tail hh ht) pt.0 (omega (arith, ints, a, low, p)) ph.0 (omega (arith, ints, b, low, q)) in
              rw (top_is k.tail ht, top_is k.head hh, ← st.top_is, ← sh.top_is) more;
          within = λ u h.
              let a = up.within u (let e = stands.as_many in omega (arith, e, h)) in
              let b = spans_sum l.units all (greatest_spacing l) stands.as_many (λ v k. (stands.stands v k).span_is) in
              let c = (stands.stands u h).span_is in
              let low = (spacing_bounds l sound).0 in
              rw (top_is u h) (omega (arith, ints, a, b, c, low));
        }
