-- The way up from the edge that enters to the one that leaves reverses: part after part is planted.
use Rattle.std.proofs.Common.{◌≡◌, ◌≢◌, ℕ, ◌+◌, ◌-◌, ◌<◌, ◌≤◌, Bool, true, false, ◌⊎◌, List, length, set, get_or, arith, refl, sym, ap, subst, ◌∙◌, inl, inr}
use Rattle.std.proofs.lemmas.Bool.{cases_eq, cases_lt, cases_Bool}
use Rattle.std.proofs.lemmas.List.{get_or-set_same, get_or-set_other, length-set}
use Rattle.network_laws.specs.declared.network.NetEdge.{NetEdge}
use Rattle.net_simplex.specs.Rooted.{above}
use Rattle.net_simplex.specs.Walks.{part, IsWalk}
use Rattle.net_simplex.specs.Rerooting.{AreDistinct, Plants, IsRerooted, IsRerootedTo, IsWayUp, RerootsNext}
use Rattle.net_simplex.proofs.Walking.{clash, is_between, between_is, between_not, before_it, own, alone, earlier, passes, within}

module _ (nodes : ℕ) (order place size : List ℕ) (up : ℕ → ℕ) (w : IsWalk nodes order place size up) where
  abbrev at : ℕ → ℕ
  at v = get_or place v 0

  abbrev wide : ℕ → ℕ
  wide v = get_or size v 0

  abbrev D : ℕ → ℕ → Bool
  D v u = part place size v u

  pub both_ways : (x y : ℕ) → x < nodes → y < nodes → D x y ≡ true → D y x ≡ true → x ≡ y
  both_ways x y lx ly h k =
      let a = (between_is (at x) (wide x) (at y) h).0 in
      let b = (between_is (at y) (wide y) (at x) k).0 in
      alone nodes order place size up w x y lx ly (omega (arith, a, b))

  -- what lists say of nodes, where they say it of places
  module _ (low high to : ℕ) (next before next' place' : List ℕ) (p : Plants order low high to next before next' place') where
    pub planted_at : (u : ℕ) → u < nodes → low ≤ at u → at u < high → (get_or place' u 0 + low ≡ to + at u) × (get_or next' (get_or place' u 0) 0 ≡ u)
    planted_at u lu a b =
        let d = at u - low in
        let is : low + d ≡ at u = omega (arith, a) in
        let q = p.planted d (omega (arith, is, b)) in
        let node : get_or order (low + d) 0 ≡ u = ap (λ i. get_or order i 0) is ∙ (w.placed u lu).1 in
        let e : get_or place' u 0 ≡ to + d = subst (λ x. get_or place' x 0 ≡ to + d) node q.0 in
        (omega (arith, e, is), ap (λ i. get_or next' i 0) e ∙ (q.1 ∙ node))

    pub unplanted : (u : ℕ) → u < nodes → ((at u < low) ⊎ (high ≤ at u)) → high ≤ nodes → get_or place' u 0 ≡ get_or before u 0
    unplanted u lu o f = p.place_others u (λ i a b e.
        let x = (w.in_order i (omega (arith, b, f))).1 in
        let y = ap (λ z. get_or place z 0) e in
        absurd (omega (arith, x, y, a, b, o)))

  module _ (parent : List ℕ) (child from base by : ℕ) (lc : child < nodes) (late : 0 < at child) (lf : from < nodes) (holds : D child from ≡ true) (resized : List ℕ) where
    abbrev To : ℕ → List ℕ → List ℕ → List ℕ → List ℕ → Type 0
    To v place' size' parent' next' = IsRerootedTo nodes place size parent up child from base by v resized place' size' parent' next'

    -- the part of `from` is planted first
    module _ (next place' next' size' : List ℕ) (p : Plants order (at from) (at from + wide from) base next place next' place') (ln : length next ≡ nodes) (room : base + wide from ≤ nodes) (ls : length resized ≡ nodes) (lp : length parent ≡ nodes) where
      pub way_start : To from place' (set resized from (wide child)) (set parent from by) next'
      way_start = record {
        there = lf;
        in_part = holds;
        on_way = own nodes order place size up w from lf;
        place_each = p.place_each ∙ w.place_each;
        size_each = length-set resized from (wide child) ∙ ls;
        parent_each = length-set parent from by ∙ lp;
        next_each = p.next_each ∙ ln;
        planted = λ u lu h.
            let b = between_is (at from) (wide from) (at u) h in
            let b0 = b.0 in
            let b1 = b.1 in
            let q = planted_at (at from) (at from + wide from) base next place next' place' p u lu b0 b1 in
            let e = q.0 in
            (omega (arith, e, b0), omega (arith, e, b1), q.1);
        filled = λ q a b.
            let i = at from + (q - base) in
            let f = w.fits from lf in
            let o = w.in_order i (omega (arith, f, a, b)) in
            let o1 = o.1 in
            let h = is_between (at from) (wide from) (at (get_or order i 0)) (omega (arith, o1)) (omega (arith, o1, a, b)) in
            let r = planted_at (at from) (at from + wide from) base next place next' place' p (get_or order i 0) o.0 (omega (arith, o1)) (omega (arith, o1, a, b)) in
            let r0 = r.0 in
            let is : get_or place' (get_or order i 0) 0 ≡ q = omega (arith, r0, o1, a) in
            let node : get_or next' q 0 ≡ get_or order i 0 = ap (λ z. get_or next' z 0) (sym is) ∙ r.1 in
            subst (λ x. (x < nodes) × (D from x ≡ true) × (get_or place' x 0 ≡ q)) (sym node) (o.0, h, is);
        outside = λ u lu h.
            let ne : u ≢ from = λ e. clash (D from u) (ap (D from) e ∙ own nodes order place size up w from lf) h in
            let f = w.fits from lf in (
              unplanted (at from) (at from + wide from) base next place next' place' p u lu (between_not (at from) (wide from) (at u) h) f,
              get_or-set_other resized from u (wide child) 0 ne,
              get_or-set_other parent from u by 0 ne,
            );
        off = λ y ly h n.
            let ne : y ≢ from = λ e. clash (D y from) (ap (λ z. D z from) e ∙ own nodes order place size up w from lf) n in (
              get_or-set_other resized from y (wide child) 0 ne,
              get_or-set_other parent from y by 0 ne,
              λ u lu k.
                  let a = between_is (at from) (wide from) (at y) h in
                  let b = between_is (at from) (wide from) (at u) (passes nodes order place size up w from y u lf ly lu h k) in
                  let ya = (planted_at (at from) (at from + wide from) base next place next' place' p y ly a.0 a.1).0 in
                  let ua = (planted_at (at from) (at from + wide from) base next place next' place' p u lu b.0 b.1).0 in
                  omega (arith, ya, ua),
            );
        start =
            let e = (planted_at (at from) (at from + wide from) base next place next' place' p from lf (omega arith) (let s = w.some from lf in omega (arith, s))).0 in (
              omega (arith, e),
              get_or-set_same resized from (wide child) 0 (omega (arith, ls, lf)),
              get_or-set_same parent from by 0 (omega (arith, lp, lf)),
            );
        way = λ y ly h k ne. absurd (ne (both_ways y from ly lf k h));
      }

    -- then what the next node of the way holds besides
    module _ (v : ℕ) (place1 size1 parent1 next1 : List ℕ) (t : To v place1 size1 parent1 next1) (ne : v ≢ child) where
      late_v : 0 < at v
      late_v =
          let b = (between_is (at child) (wide child) (at v) t.in_part).0 in omega (arith, b, late)

      abbrev x : ℕ
      x = up v

      pub next_there : x < nodes
      next_there = w.up_there v t.there late_v

      pub next_other : v ≢ x
      next_other e = w.up_other v t.there late_v (sym e)

      pub next_holds : D x v ≡ true
      next_holds = w.climbs x v next_there t.there late_v next_other ∙ own nodes order place size up w x next_there

      pub next_in : D child x ≡ true
      next_in = sym (w.climbs child v lc t.there late_v ne) ∙ t.in_part

      pub next_on : D x from ≡ true
      next_on = passes nodes order place size up w x v from next_there t.there lf next_holds t.on_way

      pub next_earlier : at x < at v
      next_earlier = earlier nodes order place size up w v t.there late_v

      pub next_wide : at v + wide v ≤ at x + wide x
      next_wide = within nodes order place size up w x v next_there t.there next_holds

      pub next_small : wide v < wide x
      next_small = let a = next_earlier in let b = next_wide in omega (arith, a, b)

      pub next_within : wide x ≤ wide child
      next_within =
          let a = (between_is (at child) (wide child) (at x) next_in).0 in
          let b = within nodes order place size up w child x lc next_there next_in in
          omega (arith, a, b)

      pub next_not_on : D v x ≡ false
      next_not_on = let a = next_earlier in before_it (at v) (wide v) (at x) a

      -- it stands as before
      pub next_place : get_or place1 x 0 ≡ at x
      next_place = (t.outside x next_there next_not_on).0

      pub next_size : get_or size1 x 0 ≡ get_or resized x 0
      next_size = (t.outside x next_there next_not_on).1

      pub next_parent : get_or parent1 x 0 ≡ get_or parent x 0
      next_parent = (t.outside x next_there next_not_on).2

      -- on the way only x is new
      only_next : (y : ℕ) → y < nodes → D x y ≡ true → D y from ≡ true → D v y ≡ false → y ≡ x
      only_next y ly h k n =
          let a = between_is (at y) (wide y) (at from) k in
          let b = between_is (at v) (wide v) (at from) t.on_way in
          let a0 = a.0 in
          let a1 = a.1 in
          let b0 = b.0 in
          let b1 = b.1 in
          let o = between_not (at v) (wide v) (at y) n in
          let s = w.some v t.there in
          let yv : D y v ≡ true = is_between (at y) (wide y) (at v) (omega (arith, a0, b1, o, b0)) (omega (arith, a1, b0)) in
          let other : v ≢ y = λ e. clash (D v y) (ap (D v) (sym e) ∙ own nodes order place size up w v t.there) n in
          both_ways y x ly next_there (sym (w.climbs y v ly t.there late_v other) ∙ yv) h

      module _ (next2 place2 next3 place3 : List ℕ) (p : Plants order (at x) (at v) (base + wide v) next1 place1 next2 place2) (q : Plants order (at v + wide v) (at x + wide x) (base + wide v + (at v - at x)) next2 place2 next3 place3) where
        fits_x : at x + wide x ≤ nodes
        fits_x = w.fits x next_there

        new_low : (u : ℕ) → u < nodes → at x ≤ at u → at u < at v → (get_or place3 u 0 + at x ≡ base + wide v + at u) × (get_or next3 (get_or place3 u 0) 0 ≡ u)
        new_low u lu a b =
            let f = fits_x in
            let s = w.fits v t.there in
            let r = planted_at (at x) (at v) (base + wide v) next1 place1 next2 place2 p u lu a b in
            let e = unplanted (at v + wide v) (at x + wide x) (base + wide v + (at v - at x)) next2 place2 next3 place3 q u lu (inl (omega (arith, b))) f in
            let r0 = r.0 in
            let n = next_earlier in
            let k = q.next_others (get_or place2 u 0) (inl (omega (arith, r0, b, a, n))) in
            (omega (arith, r0, e), ap (λ z. get_or next3 z 0) e ∙ (k ∙ r.1))

        new_high : (u : ℕ) → u < nodes → at v + wide v ≤ at u → at u < at x + wide x → (get_or place3 u 0 + at x ≡ base + at u) × (get_or next3 (get_or place3 u 0) 0 ≡ u)
        new_high u lu a b =
            let r = planted_at (at v + wide v) (at x + wide x) (base + wide v + (at v - at x)) next2 place2 next3 place3 q u lu a b in
            let r0 = r.0 in
            let n = next_earlier in
            (omega (arith, r0, n), r.1)

        same_else : (u : ℕ) → u < nodes → ((D v u ≡ true) ⊎ (D x u ≡ false)) → get_or place3 u 0 ≡ get_or place1 u 0
        same_else u lu o =
            let f = fits_x in
            let g = w.fits v t.there in
            let n = next_earlier in
            let b = next_wide in
            elim o [
              | inl h ↦
                  let i = between_is (at v) (wide v) (at u) h in
                  let i0 = i.0 in
                  let i1 = i.1 in
                  unplanted (at v + wide v) (at x + wide x) (base + wide v + (at v - at x)) next2 place2 next3 place3 q u lu (inl i1) f
                  ∙ unplanted (at x) (at v) (base + wide v) next1 place1 next2 place2 p u lu (inr i0) (omega (arith, g))
              | inr h ↦
                  let i = between_not (at x) (wide x) (at u) h in
                  unplanted (at v + wide v) (at x + wide x) (base + wide v + (at v - at x)) next2 place2 next3 place3 q u lu (elim i [
                    | inl j ↦ inl (omega (arith, j, n))
                    | inr j ↦ inr j
                  ]) f
                  ∙ unplanted (at x) (at v) (base + wide v) next1 place1 next2 place2 p u lu (elim i [
                    | inl j ↦ inl j
                    | inr j ↦ inr (omega (arith, j, b))
                  ]) (omega (arith, g))
            ]

        next_kept : (i : ℕ) → i < base + wide v → get_or next3 i 0 ≡ get_or next1 i 0
        next_kept i l = let n = next_earlier in q.next_others i (inl (omega (arith, l))) ∙ p.next_others i (inl l)

        -- a node of the part of x is in the part of v, or before it, or behind it
        abbrev Side : ℕ → Type 0
        Side u = (D v u ≡ true) ⊎ (((D v u ≡ false) × (at x ≤ at u) × (at u < at v)) ⊎ ((D v u ≡ false) × (at v + wide v ≤ at u) × (at u < at x + wide x)))

        side : (u : ℕ) → D x u ≡ true → Side u
        side u h =
            let b = between_is (at x) (wide x) (at u) h in
            elim (cases_Bool (D v u)) [
              | inl y ↦ inl y
              | inr n ↦ inr (elim (between_not (at v) (wide v) (at u) n) [
                | inl a ↦ inl (n, b.0, a)
                | inr a ↦ inr (n, a, b.1)
              ])
            ]

        pub new_planted : (u : ℕ) → u < nodes → D x u ≡ true → (base ≤ get_or place3 u 0) × (get_or place3 u 0 < base + wide x) × (get_or next3 (get_or place3 u 0) 0 ≡ u)
        new_planted u lu h =
            let n = next_small in
            let z = next_wide in
            let y = next_earlier in
            elim (side u h) [
              | inl m ↦
                  let o = t.planted u lu m in
                  let e = same_else u lu (inl m) in
                  let o0 = o.0 in
                  let o1 = o.1 in
                  (omega (arith, o0, e), omega (arith, o1, e, n), ap (λ i. get_or next3 i 0) e ∙ (next_kept (get_or place1 u 0) o1 ∙ o.2))
              | inr s ↦ elim s [
                | inl m ↦
                    let m1 = m.1 in
                    let m2 = m.2 in
                    let r = new_low u lu m1 m2 in
                    let r0 = r.0 in
                    (omega (arith, r0, m1), omega (arith, r0, m2, z, y), r.1)
                | inr m ↦
                    let m1 = m.1 in
                    let m2 = m.2 in
                    let r = new_high u lu m1 m2 in
                    let r0 = r.0 in
                    (omega (arith, r0, m1, y), omega (arith, r0, m2), r.1)
              ]
            ]

        -- what is new stands behind
        pub new_behind : (u : ℕ) → u < nodes → D x u ≡ true → D v u ≡ false → base + wide v ≤ get_or place3 u 0
        new_behind u lu h n =
            let y = next_earlier in
            elim (side u h) [
              | inl m ↦ clash (D v u) m n
              | inr s ↦ elim s [
                | inl m ↦ let m1 = m.1 in let r = (new_low u lu m1 m.2).0 in omega (arith, r, m1)
                | inr m ↦ let m1 = m.1 in let r = (new_high u lu m1 m.2).0 in omega (arith, r, m1, y)
              ]
            ]

        abbrev Filled : ℕ → ℕ → Type 0
        Filled i u = (u < nodes) × (D x u ≡ true) × (get_or place3 u 0 ≡ i)

        new_filled : (i : ℕ) → base ≤ i → i < base + wide x → Filled i (get_or next3 i 0)
        new_filled i a b =
            let y = next_earlier in
            let z = next_wide in
            let f = fits_x in
            elim (cases_lt i (base + wide v)) [
              | inl l ↦
                  let o = t.filled i a l in
                  let node = next_kept i l in
                  let u = get_or next1 i 0 in
                  subst (Filled i) (sym node) (
                    o.0,
                    passes nodes order place size up w x v u next_there t.there o.0 next_holds o.1,
                    same_else u o.0 (inl o.1) ∙ o.2,
                  )
              | inr l ↦ elim (cases_lt (i + at x) (base + wide v + at v)) [
                | inl k ↦
                    let j = i + at x - (base + wide v) in
                    let o = w.in_order j (omega (arith, k, l, f, z)) in
                    let o1 = o.1 in
                    let u = get_or order j 0 in
                    let r = new_low u o.0 (omega (arith, o1, l)) (omega (arith, o1, k, l)) in
                    let r0 = r.0 in
                    let is : get_or place3 u 0 ≡ i = omega (arith, r0, o1, l) in
                    let node : get_or next3 i 0 ≡ u = ap (λ m. get_or next3 m 0) (sym is) ∙ r.1 in
                    subst (Filled i) (sym node) (o.0, is_between (at x) (wide x) (at u) (omega (arith, o1, l)) (omega (arith, o1, k, l, z)), is)
                | inr k ↦
                    let j = i + at x - base in
                    let o = w.in_order j (omega (arith, a, b, f)) in
                    let o1 = o.1 in
                    let u = get_or order j 0 in
                    let r = new_high u o.0 (omega (arith, o1, k, a)) (omega (arith, o1, b, a)) in
                    let r0 = r.0 in
                    let is : get_or place3 u 0 ≡ i = omega (arith, r0, o1, a) in
                    let node : get_or next3 i 0 ≡ u = ap (λ m. get_or next3 m 0) (sym is) ∙ r.1 in
                    subst (Filled i) (sym node) (o.0, is_between (at x) (wide x) (at u) (omega (arith, o1, a)) (omega (arith, o1, b, a)), is)
              ]
            ]

        -- a part off the way keeps its form
        new_off : (y u : ℕ) → y < nodes → u < nodes → D x y ≡ true → D y from ≡ false → D y u ≡ true → get_or place3 u 0 + at y ≡ at u + get_or place3 y 0
        new_off y u ly lu h n k = elim (side y h) [
          | inl m ↦
              let o = (t.off y ly m n).2 u lu k in
              let e = same_else y ly (inl m) in
              let f = same_else u lu (inl (passes nodes order place size up w v y u t.there ly lu m k)) in
              omega (arith, o, e, f)
          | inr s ↦
              let yv : D y v ≡ false = elim (cases_Bool (D y v)) [
                | inl i ↦ clash (D y from) (passes nodes order place size up w y v from ly t.there lf i t.on_way) n
                | inr i ↦ i
              ] in
              let o = between_not (at y) (wide y) (at v) yv in
              let b = between_is (at y) (wide y) (at u) k in
              let b0 = b.0 in
              let b1 = b.1 in
              let g = within nodes order place size up w x y next_there ly h in
              let z = w.some v t.there in
              elim s [
                | inl m ↦
                    let m1 = m.1 in
                    let m2 = m.2 in
                    let ya = (new_low y ly m1 m2).0 in
                    let ua = (new_low u lu (omega (arith, m1, b0)) (omega (arith, b1, o, m2))).0 in
                    omega (arith, ya, ua)
                | inr m ↦
                    let m1 = m.1 in
                    let m2 = m.2 in
                    let ya = (new_high y ly m1 m2).0 in
                    let ua = (new_high u lu (omega (arith, m1, b0)) (omega (arith, b1, g))).0 in
                    omega (arith, ya, ua)
              ]
        ]

        abbrev size3 : List ℕ
        size3 = set size1 x (wide child - wide v)

        abbrev parent3 : List ℕ
        parent3 = set parent1 x (get_or parent v 0)

        -- x hangs on v now
        next_rerooted : IsRerooted nodes place size parent up child from base x x v place3 size3 parent3
        next_rerooted = record {
          there = t.there;
          in_part = t.in_part;
          on_way = t.on_way;
          up_is = refl;
          not_child = ne;
          place_is = let a = next_earlier in let r = (new_low x next_there (omega arith) a).0 in omega (arith, r);
          size_is =
              let e = get_or-set_same size1 x (wide child - wide v) 0 (let a = t.size_each in let b = next_there in omega (arith, a, b)) in
              let a = next_small in
              let b = next_within in
              omega (arith, e, a, b);
          parent_is = get_or-set_same parent1 x (get_or parent v 0) 0 (let a = t.parent_each in let b = next_there in omega (arith, a, b));
          first = λ u lu h. let o = (t.planted u lu h).1 in let e = same_else u lu (inl h) in omega (arith, o, e);
          last = λ u lu h n. new_behind u lu h n;
        }

        still_rerooted : (y z : ℕ) → y < nodes → D v y ≡ true → y ≢ x → IsRerooted nodes place size parent up child from base v y z place1 size1 parent1 → D v z ≡ true → IsRerooted nodes place size parent up child from base x y z place3 size3 parent3
        still_rerooted y z ly h other i zin = record {
          there = i.there;
          in_part = i.in_part;
          on_way = i.on_way;
          up_is = i.up_is;
          not_child = i.not_child;
          place_is = same_else y ly (inl h) ∙ i.place_is;
          size_is = let e = get_or-set_other size1 x y (wide child - wide v) 0 other in let a = i.size_is in omega (arith, e, a);
          parent_is = get_or-set_other parent1 x y (get_or parent v 0) 0 other ∙ i.parent_is;
          first = λ u lu k.
              let inside = passes nodes order place size up w v z u t.there i.there lu zin k in
              let e = same_else u lu (inl inside) in
              let a = i.first u lu k in
              omega (arith, e, a);
          last = λ u lu k n. elim (cases_Bool (D v u)) [
            | inl inside ↦ let e = same_else u lu (inl inside) in let a = i.last u lu inside n in omega (arith, e, a)
            | inr out ↦
                let a = new_behind u lu k out in
                let b = within nodes order place size up w v z t.there i.there zin in
                let d = (between_is (at v) (wide v) (at z) zin).0 in
                omega (arith, a, b, d)
          ];
        }

        pub way_more : To x place3 size3 parent3 next3
        way_more = record {
          there = next_there;
          in_part = next_in;
          on_way = next_on;
          place_each = q.place_each ∙ (p.place_each ∙ t.place_each);
          size_each = length-set size1 x (wide child - wide v) ∙ t.size_each;
          parent_each = length-set parent1 x (get_or parent v 0) ∙ t.parent_each;
          next_each = q.next_each ∙ (p.next_each ∙ t.next_each);
          planted = new_planted;
          filled = new_filled;
          outside = λ u lu h.
              let other : u ≢ x = λ e. clash (D x u) (ap (D x) e ∙ own nodes order place size up w x next_there) h in
              let not_v : D v u ≡ false = elim (cases_Bool (D v u)) [
                | inl i ↦ clash (D x u) (passes nodes order place size up w x v u next_there t.there lu next_holds i) h
                | inr i ↦ i
              ] in
              let o = t.outside u lu not_v in (
                same_else u lu (inr h) ∙ o.0,
                get_or-set_other size1 x u (wide child - wide v) 0 other ∙ o.1,
                get_or-set_other parent1 x u (get_or parent v 0) 0 other ∙ o.2,
              );
          off = λ y ly h n.
              let other : y ≢ x = λ e. clash (D y from) (ap (λ z. D z from) e ∙ next_on) n in
              let was : (get_or size1 y 0 ≡ get_or resized y 0) × (get_or parent1 y 0 ≡ get_or parent y 0) = elim (cases_Bool (D v y)) [
                | inl i ↦ let o = t.off y ly i n in (o.0, o.1)
                | inr i ↦ let o = t.outside y ly i in (o.1, o.2)
              ] in (
                get_or-set_other size1 x y (wide child - wide v) 0 other ∙ was.0,
                get_or-set_other parent1 x y (get_or parent v 0) 0 other ∙ was.1,
                λ u lu k. new_off y u ly lu h n k,
              );
          start =
              let a = t.start in
              let other : from ≢ x = λ e. clash (D v x) (ap (D v) (sym e) ∙ t.on_way) next_not_on in (
                same_else from lf (inl t.on_way) ∙ a.0,
                get_or-set_other size1 x from (wide child - wide v) 0 other ∙ a.1,
                get_or-set_other parent1 x from (get_or parent v 0) 0 other ∙ a.2,
              );
          way = λ y ly h k no. elim (cases_Bool (D v y)) [
            | inl i ↦
                let o = t.way y ly i k no in
                let other : y ≢ x = λ e. clash (D v x) (ap (D v) (sym e) ∙ i) next_not_on in
                (o.0, still_rerooted y o.0 ly i other o.1 (held_below y o.0 ly i o.1))
            | inr i ↦
                let e = only_next y ly h k i in
                (v, subst (λ z. IsRerooted nodes place size parent up child from base x z v place3 size3 parent3) (sym e) next_rerooted)
          ];
        }
          where
            -- what y hung on by is in the part of v as y is
            held_below : (y z : ℕ) → y < nodes → D v y ≡ true → IsRerooted nodes place size parent up child from base v y z place1 size1 parent1 → D v z ≡ true
            held_below y z ly h i = elim (cases_eq z v) [
              | inl e ↦ ap (D v) e ∙ own nodes order place size up w v t.there
              | inr other ↦
                  let b = (between_is (at child) (wide child) (at z) i.in_part).0 in
                  w.climbs v z t.there i.there (omega (arith, b, late)) other ∙ subst (λ m. D v m ≡ true) (sym i.up_is) h
            ]

-- the same, as the code does it
module _ (nodes : ℕ) (edges : List NetEdge) (order place size parent : List ℕ) (child from : ℕ) (resized : List ℕ) (y : IsWayUp nodes edges order place size parent child from resized) where
  abbrev above_v : ℕ → ℕ
  above_v v = above edges parent v

  pub way_distinct : AreDistinct nodes order place
  way_distinct = record { nodes_are = λ p l. let n = y.walk.order_each in y.walk.in_order p (omega (arith, l, n)) }

  pub own_child : part place size child child ≡ true
  own_child = own nodes order place size above_v y.walk child y.child_there

  pub way_small : (v : ℕ) → v < nodes → part place size child v ≡ true → get_or resized v 0 ≤ get_or resized child 0
  way_small v l h =
      let a = y.as_before v l h in
      let b = y.as_before child y.child_there own_child in
      let c = within nodes order place size above_v y.walk child v y.child_there l h in
      let d = (between_is (get_or place child 0) (get_or size child 0) (get_or place v 0) h).0 in
      omega (arith, a, b, c, d)

  module _ (base by : ℕ) where
    pub way_begins : (next place' next' : List ℕ) → length next ≡ nodes → base + get_or resized child 0 ≤ nodes → Plants order (get_or place from 0) (get_or place from 0 + get_or resized from 0) base next place next' place' → IsRerootedTo nodes place size parent (above edges parent) child from base by from resized place' (set resized from (get_or resized child 0)) (set parent from by) next'
    way_begins next place' next' ln room p =
        let f = y.as_before from y.from_there y.from_below in
        let c = y.as_before child y.child_there own_child in
        let s = way_small from y.from_there y.from_below in
        subst (λ m. IsRerootedTo nodes place size parent (above edges parent) child from base by from resized place' (set resized from m) (set parent from by) next') (sym c)
        (way_start nodes order place size above_v y.walk parent child from base by y.child_there y.child_hangs y.from_there y.from_below resized next place' next' resized (subst (λ m. Plants order (get_or place from 0) (get_or place from 0 + m) base next place next' place') f p) ln (omega (arith, f, s, room)) y.resized_each y.parent_each)

    module _ (v : ℕ) (place1 size1 parent1 next1 : List ℕ) (t : IsRerootedTo nodes place size parent (above edges parent) child from base by v resized place1 size1 parent1 next1) (ne : v ≢ child) where
      abbrev upper_v : ℕ
      upper_v = above edges parent v

      pub up_there : upper_v < nodes
      up_there = next_there nodes order place size above_v y.walk parent child from base by y.child_there y.child_hangs y.from_there y.from_below resized v place1 size1 parent1 next1 t ne

      pub up_earlier : get_or place upper_v 0 < get_or place v 0
      up_earlier = next_earlier nodes order place size above_v y.walk parent child from base by y.child_there y.child_hangs y.from_there y.from_below resized v place1 size1 parent1 next1 t ne

      pub up_wide : get_or place v 0 + get_or size v 0 ≤ get_or place upper_v 0 + get_or size upper_v 0
      up_wide = next_wide nodes order place size above_v y.walk parent child from base by y.child_there y.child_hangs y.from_there y.from_below resized v place1 size1 parent1 next1 t ne

      pub up_small : get_or size v 0 < get_or size upper_v 0
      up_small = next_small nodes order place size above_v y.walk parent child from base by y.child_there y.child_hangs y.from_there y.from_below resized v place1 size1 parent1 next1 t ne

      pub up_within : get_or size upper_v 0 ≤ get_or size child 0
      up_within = next_within nodes order place size above_v y.walk parent child from base by y.child_there y.child_hangs y.from_there y.from_below resized v place1 size1 parent1 next1 t ne

      pub up_place : get_or place1 upper_v 0 ≡ get_or place upper_v 0
      up_place = next_place nodes order place size above_v y.walk parent child from base by y.child_there y.child_hangs y.from_there y.from_below resized v place1 size1 parent1 next1 t ne

      pub up_parent : get_or parent1 upper_v 0 ≡ get_or parent upper_v 0
      up_parent = next_parent nodes order place size above_v y.walk parent child from base by y.child_there y.child_hangs y.from_there y.from_below resized v place1 size1 parent1 next1 t ne

      pub up_size : get_or size1 upper_v 0 ≡ get_or size upper_v 0
      up_size =
          next_size nodes order place size above_v y.walk parent child from base by y.child_there y.child_hangs y.from_there y.from_below resized v place1 size1 parent1 next1 t ne
          ∙ y.as_before upper_v up_there (next_in nodes order place size above_v y.walk parent child from base by y.child_there y.child_hangs y.from_there y.from_below resized v place1 size1 parent1 next1 t ne)

      pub edge_there : get_or parent v 0 < length edges
      edge_there =
          let b = (between_is (get_or place child 0) (get_or size child 0) (get_or place v 0) t.in_part).0 in
          let l = y.child_hangs in
          y.edges_there v t.there (omega (arith, b, l))

      pub way_goes_on : (z link low held many : ℕ) (place3 size3 parent3 next3 : List ℕ) → z ≡ upper_v → link ≡ get_or parent v 0 → low ≡ get_or place v 0 → held ≡ get_or size v 0 → many ≡ get_or size child 0 → RerootsNext order z link low held base many place1 size1 parent1 next1 place3 size3 parent3 next3 → IsRerootedTo nodes place size parent (above edges parent) child from base by z resized place3 size3 parent3 next3
      way_goes_on z link low held many place3 size3 parent3 next3 ez el eo eh em r =
          let r1 = rw (ez, el, eo, eh, em) at r in
          let p = rw up_place at r1.before in
          let q = rw (up_place, up_size) at r1.behind in
          rw (ez, r1.size_is, r1.parent_is)
          (way_more nodes order place size above_v y.walk parent child from base by y.child_there y.child_hangs y.from_there y.from_below resized v place1 size1 parent1 next1 t ne r1.next_between r1.place_between next3 place3 p q)
