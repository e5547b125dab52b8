-- After an exchange the new numbers are a walk over the tree that hangs anew.
use Rattle.std.proofs.Common.{◌≡◌, ◌≢◌, ℕ, ◌+◌, ◌-◌, ◌<◌, ◌≤◌, cond, not, Bool, true, false, ◌⊎◌, List, length, get_or, arith, refl, sym, ap, subst, ◌∙◌, inl, inr}
use Rattle.std.proofs.lemmas.Bool.{cases_eq, cases_lt, cases_Bool}
use Rattle.network_laws.specs.declared.network.NetEdge.{NetEdge}
use Rattle.network_laws.specs.Network.{edge_at, EndsBelow}
use Rattle.network_laws.specs.Linked.{is_marked}
use Rattle.net_simplex.specs.Rooted.{beyond, above, HangsBy, IsRooted, all_held}
use Rattle.net_simplex.specs.Walks.{part, IsWalk, moved, first_place}
use Rattle.net_simplex.specs.Rerooting.{Exchanges, AreResized, AreDistinct, IsRerooted, IsRerootedTo, IsWayUp, Settles}
use Rattle.net_simplex.proofs.Hanging.{beyond_is_end, beyond_back, parent_once}
use Rattle.net_simplex.proofs.Planting.{holding_all}
use Rattle.net_simplex.proofs.Walking.{clash, is_between, between_is, between_not, before_it, behind_it, same_test, own, alone, root_at, is_root, earlier, passes, within}
use Rattle.net_simplex.proofs.Moving.{Goes, goes, goes_once, Widens, still_fits, stays, Begins, begins, comes, goes_off, comes_from}

module _ (nodes : ℕ) (edges : List NetEdge) (old tree : List Bool) (order place size parent : List ℕ) (child from by : ℕ) (x : Exchanges nodes edges old tree order place size parent child from by) (ends : EndsBelow nodes edges) where
  abbrev up : ℕ → ℕ
  up v = above edges parent v

  abbrev w : IsWalk nodes order place size (above edges parent)
  w = x.walk

  abbrev at : ℕ → ℕ
  at v = get_or place v 0

  abbrev wide : ℕ → ℕ
  wide v = get_or size v 0

  abbrev D : ℕ → ℕ → Bool
  D v u = part place size v u

  abbrev to : ℕ
  to = beyond (edge_at edges by) from

  abbrev m : ℕ
  m = wide child

  abbrev base : ℕ
  base = first_place (at child) m (at to + 1)

  pub to_there : to < nodes
  to_there = elim (beyond_is_end (edge_at edges by) from) [
    | inl e ↦ subst (λ y. y < nodes) (sym e) (ends by x.by_there).0
    | inr e ↦ subst (λ y. y < nodes) (sym e) (ends by x.by_there).1
  ]

  pub to_aside : (at to < at child) ⊎ (at child + m ≤ at to)
  to_aside = between_not (at child) m (at to) x.by_outside

  pub upper_there : up child < nodes
  upper_there = w.up_there child x.child_there x.child_hangs

  pub upper_off : D child (up child) ≡ false
  upper_off = before_it (at child) m (at (up child)) (earlier nodes order place size up w child x.child_there x.child_hangs)

  some_m : 0 < m
  some_m = w.some child x.child_there

  fits_m : at child + m ≤ nodes
  fits_m = w.fits child x.child_there

  to_in_time : at to < nodes
  to_in_time = (w.placed to to_there).0

  late : (u : ℕ) → D child u ≡ true → 0 < at u
  late u h = let a = (between_is (at child) m (at u) h).0 in let b = x.child_hangs in omega (arith, a, b)

  pub own_child : D child child ≡ true
  own_child = own nodes order place size up w child x.child_there

  begun : Begins (at child) m (at to) base
  begun = begins (at child) m (at to) to_aside

  pub room : base + m ≤ nodes
  room =
      let f = fits_m in
      let l = to_in_time in
      elim to_aside [
        | inl a ↦ let e = begun.from_up a in omega (arith, e, a, f)
        | inr a ↦ let e = begun.from_down a in omega (arith, e, l)
      ]

  -- what holds the block is as large
  pub enough : (v : ℕ) → v < nodes → D v (up child) ≡ true → m ≤ wide v
  enough v lv h = elim (cases_eq child v) [
    | inl e ↦ clash (D child (up child)) (subst (λ y. D y (up child) ≡ true) (sym e) h) upper_off
    | inr ne ↦
        let a = within nodes order place size up w v child lv x.child_there (w.climbs v child lv x.child_there x.child_hangs ne ∙ h) in
        let b = (between_is (at v) (wide v) (at (up child)) h).0 in
        let c = earlier nodes order place size up w child x.child_there x.child_hangs in
        omega (arith, a, b, c)
  ]

  -- in the block the sizes stay
  pub keeps_size : (resized : List ℕ) → AreResized nodes place size m (up child) to resized → (v : ℕ) → v < nodes → D child v ≡ true → get_or resized v 0 ≡ wide v
  keeps_size resized sizes v lv inside =
      let no_q : D v (up child) ≡ false = elim (cases_Bool (D v (up child))) [
        | inl i ↦ clash (D child (up child)) (passes nodes order place size up w child v (up child) x.child_there lv upper_there inside i) upper_off
        | inr i ↦ i
      ] in
      let no_to : D v to ≡ false = elim (cases_Bool (D v to)) [
        | inl i ↦ clash (D child to) (passes nodes order place size up w child v to x.child_there lv to_there inside i) x.by_outside
        | inr i ↦ i
      ] in
      let a = sizes v lv in
      let b = ap (λ z. cond z m 0) no_q in
      let c = ap (λ z. cond z m 0) no_to in
      omega (arith, a, b, c)

  pub is_way_up : (resized : List ℕ) → length resized ≡ nodes → AreResized nodes place size m (up child) to resized → IsWayUp nodes edges order place size parent child from resized
  is_way_up resized n sizes = record {
    walk = w;
    parent_each = x.rooted.parent_each;
    edges_there = λ v l b. (x.rooted.hangs v l refl b).is_there;
    child_there = x.child_there;
    child_hangs = x.child_hangs;
    from_there = x.from_there;
    from_below = x.from_below;
    resized_each = n;
    as_before = keeps_size resized sizes;
  }

  pub all_distinct : AreDistinct nodes order place
  all_distinct = record { nodes_are = λ p l. let n = w.order_each in w.in_order p (omega (arith, l, n)) }

  module _ (resized place1 size' parent' next1 : List ℕ) (sizes : AreResized nodes place size m (up child) to resized) (t : IsRerootedTo nodes place size parent (above edges parent) child from base by child resized place1 size' parent' next1) (order' place' : List ℕ) (s : Settles nodes order place1 next1 (at child) m (at to + 1) order' place') where
    abbrev up' : ℕ → ℕ
    up' v = above edges parent' v

    abbrev at' : ℕ → ℕ
    at' v = get_or place' v 0

    abbrev wide' : ℕ → ℕ
    wide' v = get_or size' v 0

    abbrev D' : ℕ → ℕ → Bool
    D' v u = part place' size' v u

    aside : (u : ℕ) → D child u ≡ false → (at u < at child) ⊎ (at child + m ≤ at u)
    aside u h = between_not (at child) m (at u) h

    -- where the nodes stand now
    place_out : (u : ℕ) → u < nodes → D child u ≡ false → at' u ≡ moved (at child) m (at to + 1) (at u)
    place_out u lu h =
        let o = w.placed u lu in
        subst (λ z. at' z ≡ moved (at child) m (at to + 1) (at u)) o.1 (s.others (at u) o.0 (aside u h)).1

    place_in : (u : ℕ) → u < nodes → D child u ≡ true → at' u ≡ get_or place1 u 0
    place_in u lu h = s.kept u (λ p lp o e.
        let a = (w.in_order p lp).1 in
        let b = ap (λ z. get_or place z 0) e in
        let i = between_is (at child) m (at u) h in
        let i0 = i.0 in
        let i1 = i.1 in
        absurd (omega (arith, a, b, i0, i1, o)))

    in_block : (u : ℕ) → u < nodes → D child u ≡ true → (base ≤ at' u) × (at' u < base + m)
    in_block u lu h =
        let e = place_in u lu h in
        let o = t.planted u lu h in
        let o0 = o.0 in
        let o1 = o.1 in
        (omega (arith, e, o0), omega (arith, e, o1))

    goes_u : (u : ℕ) → u < nodes → D child u ≡ false → Goes (at child) m (at to) (at u) (at' u)
    goes_u u lu h = subst (λ p. Goes (at child) m (at to) (at u) p) (sym (place_out u lu h)) (goes (at child) m (at to) (at u) (aside u h))

    off_block : (u : ℕ) → u < nodes → D child u ≡ false → (at' u < base) ⊎ (base + m ≤ at' u)
    off_block u lu h = goes_off (at child) m (at to) to_aside base begun (at u) (at' u) (goes_u u lu h)

    node_in : (u : ℕ) → u < nodes → D child u ≡ true → get_or next1 (at' u) 0 ≡ u
    node_in u lu h = ap (λ i. get_or next1 i 0) (place_in u lu h) ∙ (t.planted u lu h).2

    -- a node outside the block
    module _ (v : ℕ) (lv : v < nodes) (out : D child v ≡ false) where
      resized_v : wide' v + cond (D v child) m 0 ≡ wide v + cond (D v to) m 0
      resized_v =
          let ne : child ≢ v = λ e. clash (D child v) (ap (D child) (sym e) ∙ own_child) out in
          let a = sizes v lv in
          let b = (t.outside v lv out).1 in
          let c = ap (λ z. cond z m 0) (w.climbs v child lv x.child_there x.child_hangs ne) in
          omega (arith, a, b, c)

      when : (b : Bool) → b ≡ true → cond b m 0 ≡ m
      when b h = ap (λ z. cond z m 0) h

      unless : (b : Bool) → b ≡ false → cond b m 0 ≡ 0
      unless b h = ap (λ z. cond z m 0) h

      widens_v : Widens (at child) m (at to) (at v) (wide v) (wide' v)
      widens_v =
          let sm = some_m in
          let r = resized_v in
          let apart : ((at v + wide v ≤ at child) ⊎ (at child + m ≤ at v)) → D v child ≡ false = λ o. elim o [
            | inl i ↦ behind_it (at v) (wide v) (at child) i
            | inr i ↦ before_it (at v) (wide v) (at child) (omega (arith, i, sm))
          ] in
          let without : ((at to < at v) ⊎ (at v + wide v ≤ at to)) → D v to ≡ false = λ o. elim o [
            | inl i ↦ before_it (at v) (wide v) (at to) i
            | inr i ↦ behind_it (at v) (wide v) (at to) i
          ] in
          record {
            nested = elim (cases_Bool (D v child)) [
              | inl i ↦
                  let b = (between_is (at v) (wide v) (at child) i).0 in
                  let c = within nodes order place size up w v child lv x.child_there i in
                  inl (
                    elim (cases_eq (at v) (at child)) [
                      | inl e ↦ clash (D child v) (ap (D child) (alone nodes order place size up w v child lv x.child_there e) ∙ own_child) out
                      | inr ne ↦ omega (arith, b, ne)
                    ],
                    c,
                  )
              | inr i ↦ inr (elim (between_not (at v) (wide v) (at child) i) [
                | inl b ↦ inr (elim (aside v out) [
                  | inl c ↦ absurd (omega (arith, b, c))
                  | inr c ↦ c
                ])
                | inr b ↦ inl b
              ])
            ];
            both = λ a b c d.
                let y = when (D v child) (is_between (at v) (wide v) (at child) (omega (arith, a)) (omega (arith, b, sm))) in
                let z = when (D v to) (is_between (at v) (wide v) (at to) c d) in
                omega (arith, r, y, z);
            loses = λ a b c.
                let y = when (D v child) (is_between (at v) (wide v) (at child) (omega (arith, a)) (omega (arith, b, sm))) in
                let z = unless (D v to) (without c) in
                omega (arith, r, y, z);
            gains = λ a c d.
                let y = unless (D v child) (apart a) in
                let z = when (D v to) (is_between (at v) (wide v) (at to) c d) in
                omega (arith, r, y, z);
            none = λ a c.
                let y = unless (D v child) (apart a) in
                let z = unless (D v to) (without c) in
                omega (arith, r, y, z);
          }

      -- holds what it held outside the block
      out_out : (u : ℕ) → u < nodes → D child u ≡ false → D' v u ≡ D v u
      out_out u lu h = stays (at child) m (at to) to_aside (at v) (wide v) (at' v) (wide' v) (at u) (at' u) (goes_u v lv out) widens_v (goes_u u lu h)

      -- and the block where it holds `to`
      out_in : (u : ℕ) → u < nodes → D child u ≡ true → D' v u ≡ D v to
      out_in u lu h = let b = in_block u lu h in comes (at child) m (at to) to_aside base begun (at v) (wide v) (at' v) (wide' v) (at' u) (goes_u v lv out) widens_v b.0 b.1

      out_fits : at' v + wide' v ≤ nodes
      out_fits = still_fits (at child) m (at to) nodes (at v) (wide v) (at' v) (wide' v) some_m fits_m (w.fits v lv) (goes_u v lv out) widens_v

    -- a node of the block that is not on the way
    module _ (v : ℕ) (lv : v < nodes) (inside : D child v ≡ true) (off : D v from ≡ false) where
      off_size : wide' v ≡ wide v
      off_size = (t.off v lv inside off).0 ∙ keeps_size resized sizes v lv inside

      off_shift : (u : ℕ) → u < nodes → D v u ≡ true → at' u + at v ≡ at u + at' v
      off_shift u lu h =
          let a = (t.off v lv inside off).2 u lu h in
          let b = place_in v lv inside in
          let c = place_in u lu (passes nodes order place size up w child v u x.child_there lv lu inside h) in
          omega (arith, a, b, c)

      off_end : at' v + wide v ≤ base + m
      off_end =
          let sv = w.some v lv in
          let f = w.fits v lv in
          let o = w.in_order (at v + wide v - 1) (omega (arith, sv, f)) in
          let z = get_or order (at v + wide v - 1) 0 in
          let o1 = o.1 in
          let h : D v z ≡ true = is_between (at v) (wide v) (at z) (omega (arith, o1, sv)) (omega (arith, o1, sv)) in
          let a = off_shift z o.0 h in
          let b = (in_block z o.0 (passes nodes order place size up w child v z x.child_there lv o.0 inside h)).1 in
          omega (arith, a, b, o1, sv)

      off_in : (u : ℕ) → u < nodes → D child u ≡ true → D' v u ≡ D v u
      off_in u lu hu =
          let e = off_size in
          same_test (D' v u) (D v u)
          (λ k.
          let b = between_is (at' v) (wide' v) (at' u) k in
          let b0 = b.0 in
          let b1 = b.1 in
          let f = w.fits v lv in
          let i = at v + (at' u - at' v) in
          let o = w.in_order i (omega (arith, b0, b1, e, f)) in
          let o1 = o.1 in
          let z = get_or order i 0 in
          let h : D v z ≡ true = is_between (at v) (wide v) (at z) (omega (arith, o1, b0)) (omega (arith, o1, b0, b1, e)) in
          let a = off_shift z o.0 h in
          let same : at' z ≡ at' u = omega (arith, a, o1, b0) in
          let zu : z ≡ u = sym (node_in z o.0 (passes nodes order place size up w child v z x.child_there lv o.0 inside h)) ∙ (ap (λ p. get_or next1 p 0) same ∙ node_in u lu hu) in
          subst (λ y. D v y ≡ true) zu h)
          (λ k.
          let b = between_is (at v) (wide v) (at u) k in
          let b0 = b.0 in
          let b1 = b.1 in
          let a = off_shift u lu k in
          is_between (at' v) (wide' v) (at' u) (omega (arith, a, b0)) (omega (arith, a, b0, b1, e)))

      off_out : (u : ℕ) → u < nodes → D child u ≡ false → D' v u ≡ false
      off_out u lu hu =
          let e = off_size in
          let l = off_end in
          let b = (in_block v lv inside).0 in
          elim (off_block u lu hu) [
            | inl o ↦ before_it (at' v) (wide' v) (at' u) (omega (arith, o, b))
            | inr o ↦ behind_it (at' v) (wide' v) (at' u) (omega (arith, o, l, e))
          ]

    -- `from` holds the block
    from_place : (at' from ≡ base) × (wide' from ≡ m)
    from_place = (place_in from x.from_there x.from_below ∙ t.start.0, t.start.1)

    start_in : (u : ℕ) → u < nodes → D child u ≡ true → D' from u ≡ true
    start_in u lu h =
        let a = from_place.0 in
        let c = from_place.1 in
        let b = in_block u lu h in
        let b0 = b.0 in
        let b1 = b.1 in
        is_between (at' from) (wide' from) (at' u) (omega (arith, a, b0)) (omega (arith, a, c, b1))

    start_out : (u : ℕ) → u < nodes → D child u ≡ false → D' from u ≡ false
    start_out u lu h =
        let a = from_place.0 in
        let c = from_place.1 in
        elim (off_block u lu h) [
          | inl o ↦ before_it (at' from) (wide' from) (at' u) (omega (arith, a, o))
          | inr o ↦ behind_it (at' from) (wide' from) (at' u) (omega (arith, a, c, o))
        ]

    -- a node of the way, which hangs on z now
    module _ (v : ℕ) (lv : v < nodes) (inside : D child v ≡ true) (z : ℕ) (i : IsRerooted nodes place size parent (above edges parent) child from base child v z place1 size' parent') where
      way_place : at' v ≡ base + wide z
      way_place = place_in v lv inside ∙ i.place_is

      way_in : (u : ℕ) → u < nodes → D child u ≡ true → D' v u ≡ not (D z u)
      way_in u lu h =
          let a = way_place in
          let c = i.size_is in
          let b = in_block u lu h in
          let b1 = b.1 in
          let e = place_in u lu h in
          elim (cases_Bool (D z u)) [
            | inl k ↦ let f = i.first u lu k in before_it (at' v) (wide' v) (at' u) (omega (arith, a, e, f)) ∙ sym (ap not k)
            | inr k ↦ let f = i.last u lu h k in is_between (at' v) (wide' v) (at' u) (omega (arith, a, e, f)) (omega (arith, a, c, b1)) ∙ sym (ap not k)
          ]

      way_out : (u : ℕ) → u < nodes → D child u ≡ false → D' v u ≡ false
      way_out u lu h =
          let a = way_place in
          let c = i.size_is in
          elim (off_block u lu h) [
            | inl o ↦ before_it (at' v) (wide' v) (at' u) (omega (arith, a, o))
            | inr o ↦ behind_it (at' v) (wide' v) (at' u) (omega (arith, a, c, o))
          ]

      way_late : 0 < at z
      way_late = late z i.in_part

      way_below : D z v ≡ false
      way_below = subst (λ y. D z y ≡ false) i.up_is (before_it (at z) (wide z) (at (up z)) (earlier nodes order place size up w z i.there way_late))

      way_other : z ≢ v
      way_other e = w.up_other z i.there way_late (i.up_is ∙ sym e)

      way_up : up' v ≡ z
      way_up =
          let k = get_or parent z 0 in
          ap (λ j. beyond (edge_at edges j) v) i.parent_is
          ∙ (ap (beyond (edge_at edges k)) (sym i.up_is) ∙ beyond_back (edge_at edges k) z (x.rooted.hangs z i.there refl way_late).at_end (λ e. w.up_other z i.there way_late e))

    -- which of them a node is
    record Way (v : ℕ) : Type 0 where
      inside : D child v ≡ true
      on : D v from ≡ true
      z : ℕ
      rerooted : IsRerooted nodes place size parent (above edges parent) child from base child v z place1 size' parent'

    abbrev Kind : ℕ → Type 0
    Kind v = (D child v ≡ false) ⊎ ((v ≡ from) ⊎ (Way v ⊎ ((D child v ≡ true) × (D v from ≡ false))))

    kind : (v : ℕ) → v < nodes → Kind v
    kind v lv = elim (cases_Bool (D child v)) [
      | inr h ↦ inl h
      | inl h ↦ inr (elim (cases_eq v from) [
        | inl e ↦ inl e
        | inr ne ↦ inr (elim (cases_Bool (D v from)) [
          | inl k ↦ inl (let o = t.way v lv h k ne in record { inside = h; on = k; z = o.0; rerooted = o.1 })
          | inr k ↦ inr (h, k)
        ])
      ])
    ]

    up_from : up' from ≡ to
    up_from = ap (λ k. beyond (edge_at edges k) from) t.start.2

    up_out : (v : ℕ) → v < nodes → D child v ≡ false → up' v ≡ up v
    up_out v lv h = ap (λ k. beyond (edge_at edges k) v) (t.outside v lv h).2

    up_off : (v : ℕ) → v < nodes → D child v ≡ true → D v from ≡ false → up' v ≡ up v
    up_off v lv h k = ap (λ j. beyond (edge_at edges j) v) (t.off v lv h k).1

    not_child : (v : ℕ) → D v from ≡ false → v ≢ child
    not_child v k e = clash (D v from) (ap (λ y. D y from) e ∙ x.from_below) k

    root_out : D child 0 ≡ false
    root_out =
        let some : 0 < nodes = let b = x.rooted.begun in b in
        let a = root_at nodes order place size up w some in
        let b = x.child_hangs in
        before_it (at child) m (at 0) (omega (arith, a, b))

    root_stays : at' 0 ≡ 0
    root_stays =
        let some : 0 < nodes = let b = x.rooted.begun in b in
        let a = root_at nodes order place size up w some in
        let b = x.child_hangs in
        (goes_u 0 some root_out).before (omega (arith, a, b)) (omega (arith, a)) ∙ a

    was_late : (u : ℕ) → u < nodes → 0 < at' u → 0 < at u
    was_late u lu l = elim (cases_eq (at u) 0) [
      | inl e ↦ let a = ap at' (is_root nodes order place size up w u lu e) in let b = root_stays in absurd (omega (arith, a, b, l))
      | inr ne ↦ omega (arith, ne)
    ]

    -- what a node of the block hangs on is in it, but for `from`
    up_there' : (u : ℕ) → u < nodes → 0 < at u → up' u < nodes
    up_there' u lu l = elim (kind u lu) [
      | inl h ↦ subst (λ y. y < nodes) (sym (up_out u lu h)) (w.up_there u lu l)
      | inr r ↦ elim r [
        | inl e ↦ subst (λ y. up' y < nodes) (sym e) (subst (λ y. y < nodes) (sym up_from) to_there)
        | inr q ↦ elim q [
          | inl y ↦ subst (λ z. z < nodes) (sym (way_up u lu y.inside y.z y.rerooted)) y.rerooted.there
          | inr y ↦ subst (λ z. z < nodes) (sym (up_off u lu y.0 y.1)) (w.up_there u lu l)
        ]
      ]
    ]

    up_other' : (u : ℕ) → u < nodes → 0 < at u → up' u ≢ u
    up_other' u lu l e = elim (kind u lu) [
      | inl h ↦ w.up_other u lu l (sym (up_out u lu h) ∙ e)
      | inr r ↦ elim r [
        | inl f ↦ clash (D child to) (ap (D child) (sym up_from ∙ (ap up' (sym f) ∙ (e ∙ f))) ∙ x.from_below) x.by_outside
        | inr q ↦ elim q [
          | inl y ↦ way_other u lu y.inside y.z y.rerooted (sym (way_up u lu y.inside y.z y.rerooted) ∙ e)
          | inr y ↦ w.up_other u lu l (sym (up_off u lu y.0 y.1) ∙ e)
        ]
      ]
    ]

    up_in : (u : ℕ) → u < nodes → D child u ≡ true → u ≢ from → D child (up' u) ≡ true
    up_in u lu h ne = elim (kind u lu) [
      | inl n ↦ clash (D child u) h n
      | inr r ↦ elim r [
        | inl e ↦ absurd (ne e)
        | inr q ↦ elim q [
          | inl y ↦ ap (D child) (way_up u lu y.inside y.z y.rerooted) ∙ y.rerooted.in_part
          | inr y ↦ ap (D child) (up_off u lu y.0 y.1) ∙ (sym (w.climbs child u x.child_there lu (late u h) (not_child u y.1)) ∙ h)
        ]
      ]
    ]

    up_stays_out : (u : ℕ) → u < nodes → 0 < at u → D child u ≡ false → D child (up' u) ≡ false
    up_stays_out u lu l h =
        let ne : u ≢ child = λ e. clash (D child u) (ap (D child) e ∙ own_child) h in
        ap (D child) (up_out u lu h) ∙ (sym (w.climbs child u x.child_there lu l ne) ∙ h)

    -- what is of the block holds nothing outside
    inner_out : (v u : ℕ) → v < nodes → u < nodes → D child v ≡ true → D child u ≡ false → D' v u ≡ false
    inner_out v u lv lu h n = elim (kind v lv) [
      | inl o ↦ clash (D child v) h o
      | inr r ↦ elim r [
        | inl e ↦ ap (λ y. D' y u) e ∙ start_out u lu n
        | inr q ↦ elim q [
          | inl y ↦ way_out v lv y.inside y.z y.rerooted u lu n
          | inr y ↦ off_out v lv y.0 y.1 u lu n
        ]
      ]
    ]

    -- the law, for a node of the way
    law_way : (v u : ℕ) (y : Way v) → v < nodes → u < nodes → D child u ≡ true → u ≢ v → u ≢ from → D' v u ≡ D' v (up' u)
    law_way v u y lv lu h ne nf =
        let z = y.z in
        let i = y.rerooted in
        let lp = up_there' u lu (late u h) in
        let step : D z u ≡ D z (up' u) = elim (kind u lu) [
          | inl n ↦ clash (D child u) h n
          | inr r ↦ elim r [
            | inl e ↦ absurd (nf e)
            | inr q ↦ elim q [
              | inl g ↦
                  let k = g.rerooted in
                  let other : g.z ≢ z = λ e. ne (sym k.up_is ∙ (ap up e ∙ i.up_is)) in
                  ap (D z) (sym k.up_is) ∙ (sym (w.climbs z g.z i.there k.there (late g.z k.in_part) other) ∙ ap (D z) (sym (way_up u lu g.inside g.z k)))
              | inr g ↦
                  let other : u ≢ z = λ e. clash (D u from) (ap (λ j. D j from) e ∙ i.on_way) g.1 in
                  w.climbs z u i.there lu (late u h) other ∙ ap (D z) (sym (up_off u lu g.0 g.1))
            ]
          ]
        ] in
        way_in v lv y.inside z i u lu h ∙ (ap not step ∙ sym (way_in v lv y.inside z i (up' u) lp (up_in u lu h nf)))

    law_off : (v u : ℕ) → v < nodes → u < nodes → D child v ≡ true → D v from ≡ false → D child u ≡ true → u ≢ v → u ≢ from → D' v u ≡ D' v (up' u)
    law_off v u lv lu hv off h ne nf =
        let lp = up_there' u lu (late u h) in
        let step : D v u ≡ D v (up' u) = elim (kind u lu) [
          | inl n ↦ clash (D child u) h n
          | inr r ↦ elim r [
            | inl e ↦ absurd (nf e)
            | inr q ↦ elim q [
              | inl g ↦
                  let k = g.rerooted in
                  let other : g.z ≢ v = λ e. clash (D v from) (ap (λ j. D j from) (sym e) ∙ k.on_way) off in
                  ap (D v) (sym k.up_is) ∙ (sym (w.climbs v g.z lv k.there (late g.z k.in_part) other) ∙ ap (D v) (sym (way_up u lu g.inside g.z k)))
              | inr g ↦ w.climbs v u lv lu (late u h) ne ∙ ap (D v) (sym (up_off u lu g.0 g.1))
            ]
          ]
        ] in
        off_in v lv hv off u lu h ∙ (step ∙ sym (off_in v lv hv off (up' u) lp (up_in u lu h nf)))

    -- `from` hangs on `to`
    law_from : (v : ℕ) → v < nodes → from ≢ v → D' v from ≡ D' v to
    law_from v lv ne = elim (kind v lv) [
      | inl n ↦ out_in v lv n from x.from_there x.from_below ∙ sym (out_out v lv n to to_there x.by_outside)
      | inr r ↦ elim r [
        | inl e ↦ absurd (ne (sym e))
        | inr q ↦ elim q [
          | inl y ↦ way_in v lv y.inside y.z y.rerooted from x.from_there x.from_below ∙ (ap not y.rerooted.on_way ∙ sym (way_out v lv y.inside y.z y.rerooted to to_there x.by_outside))
          | inr y ↦ off_in v lv y.0 y.1 from x.from_there x.from_below ∙ (y.1 ∙ sym (off_out v lv y.0 y.1 to to_there x.by_outside))
        ]
      ]
    ]

    law_in : (v u : ℕ) → v < nodes → u < nodes → D child u ≡ true → u ≢ v → u ≢ from → D' v u ≡ D' v (up' u)
    law_in v u lv lu h ne nf =
        let lp = up_there' u lu (late u h) in
        let hp = up_in u lu h nf in
        elim (kind v lv) [
          | inl n ↦ out_in v lv n u lu h ∙ sym (out_in v lv n (up' u) lp hp)
          | inr r ↦ elim r [
            | inl e ↦ subst (λ y. D' y u ≡ D' y (up' u)) (sym e) (start_in u lu h ∙ sym (start_in (up' u) lp hp))
            | inr q ↦ elim q [
              | inl y ↦ law_way v u y lv lu h ne nf
              | inr y ↦ law_off v u lv lu y.0 y.1 h ne nf
            ]
          ]
        ]

    law_out : (v u : ℕ) → v < nodes → u < nodes → 0 < at u → D child u ≡ false → u ≢ v → D' v u ≡ D' v (up' u)
    law_out v u lv lu l n ne =
        let lp = up_there' u lu l in
        let np = up_stays_out u lu l n in
        elim (cases_Bool (D child v)) [
          | inl h ↦ inner_out v u lv lu h n ∙ sym (inner_out v (up' u) lv lp h np)
          | inr o ↦ out_out v lv o u lu n ∙ (w.climbs v u lv lu l ne ∙ (ap (D v) (sym (up_out u lu n)) ∙ sym (out_out v lv o (up' u) lp np)))
        ]

    law : (v u : ℕ) → v < nodes → u < nodes → 0 < at' u → u ≢ v → D' v u ≡ D' v (up' u)
    law v u lv lu l ne =
        let l0 = was_late u lu l in
        elim (cases_Bool (D child u)) [
          | inr n ↦ law_out v u lv lu l0 n ne
          | inl h ↦ elim (cases_eq u from) [
            | inl e ↦ subst (λ y. D' v y ≡ D' v (up' y)) (sym e) (law_from v lv (λ f. ne (e ∙ f)) ∙ ap (D' v) (sym up_from))
            | inr nf ↦ law_in v u lv lu h ne nf
          ]
        ]

    own' : (v : ℕ) → v < nodes → D' v v ≡ true
    own' v lv = elim (kind v lv) [
      | inl n ↦ out_out v lv n v lv n ∙ own nodes order place size up w v lv
      | inr r ↦ elim r [
        | inl e ↦ subst (λ y. D' y y ≡ true) (sym e) (start_in from x.from_there x.from_below)
        | inr q ↦ elim q [
          | inl y ↦ way_in v lv y.inside y.z y.rerooted v lv y.inside ∙ ap not (way_below v lv y.inside y.z y.rerooted)
          | inr y ↦ off_in v lv y.0 y.1 v lv y.0 ∙ own nodes order place size up w v lv
        ]
      ]
    ]

    fits' : (v : ℕ) → v < nodes → at' v + wide' v ≤ nodes
    fits' v lv =
        let f = room in
        elim (kind v lv) [
          | inl n ↦ out_fits v lv n
          | inr r ↦ elim r [
            | inl e ↦ subst (λ y. at' y + wide' y ≤ nodes) (sym e) (let a = from_place.0 in let b = from_place.1 in omega (arith, a, b, f))
            | inr q ↦ elim q [
              | inl y ↦ let a = way_place v lv y.inside y.z y.rerooted in let b = y.rerooted.size_is in omega (arith, a, b, f)
              | inr y ↦ let a = off_end v lv y.0 y.1 in let b = off_size v lv y.0 y.1 in omega (arith, a, b, f)
            ]
          ]
        ]

    placed' : (v : ℕ) → v < nodes → (at' v < nodes) × (get_or order' (at' v) 0 ≡ v)
    placed' v lv =
        let f = fits' v lv in
        let o = (between_is (at' v) (wide' v) (at' v) (own' v lv)).1 in (
          omega (arith, f, o),
          elim (cases_Bool (D child v)) [
            | inl h ↦
                let b = in_block v lv h in
                s.block (at' v) b.0 b.1 ∙ node_in v lv h
            | inr n ↦
                let p = w.placed v lv in
                ap (λ i. get_or order' i 0) (place_out v lv n) ∙ ((s.others (at v) p.0 (aside v n)).0 ∙ p.1)
          ],
        )

    abbrev Stands : ℕ → ℕ → Type 0
    Stands p v = (v < nodes) × (at' v ≡ p)

    in_order' : (p : ℕ) → p < nodes → Stands p (get_or order' p 0)
    in_order' p lp = elim (cases_lt p base) [
      | inl a ↦ taken p lp (inl a)
      | inr a ↦ elim (cases_lt p (base + m)) [
        | inr b ↦ taken p lp (inr b)
        | inl b ↦
            let f = t.filled p a b in
            subst (Stands p) (sym (s.block p a b)) (f.0, place_in (get_or next1 p 0) f.0 f.1 ∙ f.2)
      ]
    ]
      where
        taken : (q : ℕ) → q < nodes → ((q < base) ⊎ (base + m ≤ q)) → Stands q (get_or order' q 0)
        taken q lq o =
            let c = comes_from (at child) m (at to) to_aside base begun nodes q lq fits_m to_in_time o in
            let i = w.in_order c.p c.there in
            let u = get_or order c.p 0 in
            let i1 = i.1 in
            let g = c.goes_there.outside in
            let n : D child u ≡ false = elim g [
              | inl e ↦ before_it (at child) m (at u) (omega (arith, i1, e))
              | inr e ↦ behind_it (at child) m (at u) (omega (arith, i1, e))
            ] in
            let is : at' u ≡ q = goes_once (at child) m (at to) c.p (at' u) q (subst (λ j. Goes (at child) m (at to) j (at' u)) i1 (goes_u u i.0 n)) c.goes_there in
            let node : get_or order' q 0 ≡ u = ap (λ j. get_or order' j 0) (sym is) ∙ (placed' u i.0).1 in
            subst (Stands q) (sym node) (i.0, is)

    pub walk_after : IsWalk nodes order' place' size' (above edges parent')
    walk_after = record {
      order_each = s.order_each;
      place_each = s.place_each;
      size_each = t.size_each;
      root_first = let some : 0 < nodes = let b = x.rooted.begun in b in ap (λ i. get_or order' i 0) (sym root_stays) ∙ (placed' 0 some).1;
      in_order = in_order';
      placed = placed';
      some = λ v lv. let b = (between_is (at' v) (wide' v) (at' v) (own' v lv)).1 in omega (arith, b);
      fits = fits';
      up_there = λ v lv l. up_there' v lv (was_late v lv l);
      up_other = λ v lv l. up_other' v lv (was_late v lv l);
      climbs = law;
    }

    abbrev Hangs : ℕ → Type 0
    Hangs v = HangsBy edges tree all_held place' v (get_or parent' v 0)

    stays_marked : (v : ℕ) → v < nodes → 0 < at v → v ≢ child → is_marked tree (get_or parent v 0) ≡ true
    stays_marked v lv l ne =
        let h = x.rooted.hangs v lv refl l in
        x.others_stay (get_or parent v 0) h.is_there h.has_mark (λ e. ne (parent_once nodes edges old order place parent x.rooted v child lv x.child_there l x.child_hangs e))

    as_before : (v : ℕ) → v < nodes → 0 < at' v → v ≢ child → get_or parent' v 0 ≡ get_or parent v 0 → Hangs v
    as_before v lv l ne e =
        let h = x.rooted.hangs v lv refl (was_late v lv l) in
        subst (λ k. HangsBy edges tree all_held place' v k) (sym e) (record {
          is_there = h.is_there;
          has_mark = stays_marked v lv (was_late v lv l) ne;
          at_end = h.at_end;
          holds = refl;
          earlier = subst (λ k. get_or place' (beyond (edge_at edges k) v) 0 < at' v) e (earlier nodes order' place' size' (above edges parent') walk_after v lv l);
        })

    hangs' : (v : ℕ) → v < nodes → 0 < at' v → Hangs v
    hangs' v lv l = elim (kind v lv) [
      | inl n ↦ as_before v lv l (λ e. clash (D child v) (ap (D child) e ∙ own_child) n) (t.outside v lv n).2
      | inr r ↦ elim r [
        | inl e ↦ subst Hangs (sym e) (subst (λ k. HangsBy edges tree all_held place' from k) (sym t.start.2) (record {
          is_there = x.by_there;
          has_mark = x.by_marked;
          at_end = x.by_end;
          holds = refl;
          earlier = subst (λ k. get_or place' (beyond (edge_at edges k) from) 0 < at' from) t.start.2 (earlier nodes order' place' size' (above edges parent') walk_after from x.from_there (subst (λ y. 0 < at' y) e l));
        }))
        | inr q ↦ elim q [
          | inr y ↦ as_before v lv l (not_child v y.1) (t.off v lv y.0 y.1).1
          | inl y ↦
              let i = y.rerooted in
              let h = x.rooted.hangs y.z i.there refl (late y.z i.in_part) in
              subst (λ k. HangsBy edges tree all_held place' v k) (sym i.parent_is) (record {
                is_there = h.is_there;
                has_mark = stays_marked y.z i.there (late y.z i.in_part) i.not_child;
                at_end = elim (beyond_is_end (edge_at edges (get_or parent y.z 0)) y.z) [
                  | inl e ↦ inl (sym e ∙ i.up_is)
                  | inr e ↦ inr (sym e ∙ i.up_is)
                ];
                holds = refl;
                earlier = subst (λ k. get_or place' (beyond (edge_at edges k) v) 0 < at' v) i.parent_is (earlier nodes order' place' size' (above edges parent') walk_after v lv l);
              })
        ]
      ]
    ]

    pub rooted_after : IsRooted nodes edges tree order' place' parent'
    rooted_after = record {
      order_each = s.order_each;
      place_each = s.place_each;
      parent_each = t.parent_each;
      counted = sym (holding_all all_held nodes (λ v l. refl));
      begun = x.rooted.begun;
      root_first = walk_after.root_first;
      no_parent = (t.outside 0 x.rooted.begun root_out).2 ∙ x.rooted.no_parent;
      in_order = λ p l. let o = in_order' p l in (o.0, o.1, refl);
      placed = λ v l h. placed' v l;
      hangs = λ v l h b. hangs' v l b;
    }
