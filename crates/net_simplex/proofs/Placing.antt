-- The places of the nodes in the walk, given from the first node of an order to the last.
use Rattle.std.proofs.Common.{◌≡◌, ◌≢◌, ℕ, zero, suc, ◌+◌, ◌-◌, ◌<◌, ◌≤◌, eqb, eq-eqb, cond, Bool, true, false, ◌||◌, ◌⊎◌, List, length, set, get_or, arith, refl, sym, ap, subst, ◌∙◌, inl, inr}
use Rattle.std.proofs.lemmas.Bool.{cases_eq, cases_lt, cases_Bool}
use Rattle.std.proofs.lemmas.List.{get_or-set_same, get_or-set_other, length-set}
use Rattle.network_laws.specs.declared.network.NetEdge.{NetEdge}
use Rattle.network_laws.specs.Network.{EndsBelow}
use Rattle.net_simplex.specs.Rooted.{above, holding, IsRooted, all_held}
use Rattle.net_simplex.specs.Walks.{part, between, hung_size, IsWalk, AreSizes, ArePlacedTo, AreWalkPlaces, TakesPlace}
use Rattle.net_simplex.proofs.Hanging.{ne_eqb, root_place, is_root, not_root, same_place, above_there, above_earlier}
use Rattle.net_simplex.proofs.Planting.{holding_more, holding_none, holding_room, holding_all}
use Rattle.net_simplex.proofs.Walking.{clash, same_test, is_between, between_is, before_it, behind_it, earlier}
use Rattle.net_simplex.proofs.Sizing.{hung_none}

module _ (nodes : ℕ) (edges : List NetEdge) (tree : List Bool) (order old parent : List ℕ) (r : IsRooted nodes edges tree order old parent) (ends : EndsBelow nodes edges) (size : List ℕ) (sizes : AreSizes nodes order (above edges parent) size) where
  abbrev up : ℕ → ℕ
  up v = above edges parent v

  abbrev wide : ℕ → ℕ
  wide v = get_or size v 0

  abbrev was : ℕ → ℕ
  was v = get_or old v 0

  pub some_wide : (v : ℕ) → v < nodes → 0 < wide v
  some_wide v l = let a = sizes.sums v l in omega (arith, a)

  first_only : (v : ℕ) → v < nodes → was v < 1 → v ≡ 0
  first_only v l b = is_root nodes edges tree order old parent r v l (omega (arith, b))

  pub placed_start : (place next : List ℕ) → length place ≡ nodes → length next ≡ nodes → ArePlacedTo nodes order old (above edges parent) size 1 (nodes - 1) (set place 0 0) (set next 0 1)
  placed_start place next lp ln =
      let some : 0 < nodes = let b = r.begun in b in
      let at : get_or (set place 0 0) 0 0 ≡ 0 = get_or-set_same place 0 0 0 (omega (arith, lp, some)) in
      let on : get_or (set next 0 1) 0 0 ≡ 1 = get_or-set_same next 0 1 0 (omega (arith, ln, some)) in
      let s = sizes.sums 0 some in
      let a = sizes.all in
      record {
        place_each = length-set place 0 0 ∙ lp;
        next_each = length-set next 0 1 ∙ ln;
        root = at;
        begins = λ v l b. subst (λ x. get_or (set place 0 0) x 0 < get_or (set next 0 1) x 0) (sym (first_only v l b)) (omega (arith, at, on));
        room = λ v l b. subst (λ x. get_or (set next 0 1) x 0 + hung_size order (above edges parent) size x 1 (nodes - 1) ≡ get_or (set place 0 0) x 0 + wide x) (sym (first_only v l b)) (omega (arith, at, on, s));
        nested = λ p v lp lv bp bv ne h. absurd (ne (first_only p lp bp ∙ sym (first_only v lv bv)));
        climbs = λ v u lv lu bv bu late ne. absurd (omega (arith, bu, late));
        fits = λ v l b. subst (λ x. get_or (set place 0 0) x 0 + wide x ≤ nodes) (sym (first_only v l b)) (omega (arith, at, a));
      }

  module _ (i count : ℕ) (some : 0 < i) (there : i < nodes) (all : i + suc count ≡ nodes) (place next : List ℕ) (s : ArePlacedTo nodes order old (above edges parent) size i (suc count) place next) where
    abbrev at : ℕ → ℕ
    at v = get_or place v 0

    abbrev on : ℕ → ℕ
    on v = get_or next v 0

    abbrev D : ℕ → ℕ → Bool
    D v u = part place size v u

    abbrev rest : ℕ → ℕ
    rest v = hung_size order (above edges parent) size v i (suc count)

    abbrev v : ℕ
    v = get_or order i 0

    abbrev p : ℕ
    p = above edges parent v

    pub v_there : v < nodes
    v_there = (r.in_order i there).0

    v_was : was v ≡ i
    v_was = (r.in_order i there).1

    v_late : 0 < was v
    v_late = let a = v_was in omega (arith, a, some)

    pub v_edge : get_or parent v 0 < length edges
    v_edge = (r.hangs v v_there refl v_late).is_there

    pub p_there : p < nodes
    p_there = above_there nodes edges tree order old parent r v ends v_there v_late

    p_was : was p < i
    p_was = let a = above_earlier nodes edges tree order old parent r v v_there v_late in let b = v_was in omega (arith, a, b)

    ends_in : (x : ℕ) → x < nodes → was x < i → on x ≤ at x + wide x
    ends_in x l b = let a = s.room x l b in omega (arith, a)

    -- v has room on p
    pub room_on : on p + wide v ≤ at p + wide p
    room_on =
        let a = s.room p p_there p_was in
        let b = ap (λ z. cond z (wide v) 0) (eq-eqb p p refl) in
        omega (arith, a, b)

    pub ends_before : on p + wide v ≤ nodes
    ends_before = let a = room_on in let b = s.fits p p_there p_was in omega (arith, a, b)

    late_p : at p < on p
    late_p = s.begins p p_there p_was

    -- none of the others stands there
    free : (x : ℕ) → x < nodes → was x < i → (at x < on p) ⊎ (on p + wide v ≤ at x)
    free x l b = elim (cases_lt (at x) (on p)) [
      | inl a ↦ inl a
      | inr a ↦ elim (cases_lt (at x) (on p + wide v)) [
        | inr c ↦ inr c
        | inl c ↦
            let e = late_p in
            let f = room_on in
            let g = some_wide x l in
            elim (cases_eq p x) [
              | inl same ↦ let z = ap at same in absurd (omega (arith, z, a, e))
              | inr ne ↦
                  let h = s.nested p x p_there l p_was b ne (is_between (at p) (wide p) (at x) (omega (arith, a, e)) (omega (arith, c, f))) in
                  let h1 = h.1 in
                  absurd (omega (arith, h1, a, g))
            ]
      ]
    ]

    -- what holds p holds the place of v, and no other does
    holds_place : (x : ℕ) → x < nodes → was x < i → D x p ≡ between (at x) (wide x) (on p)
    holds_place x l b =
        let e = late_p in
        let f = room_on in
        let g = some_wide v v_there in
        let k = ends_in x l b in
        elim (cases_eq x p) [
          | inl same ↦
              let z = some_wide p p_there in
              subst (λ y. D y p ≡ between (at y) (wide y) (on p)) (sym same)
              (is_between (at p) (wide p) (at p) (omega arith) (omega (arith, z)) ∙ sym (is_between (at p) (wide p) (on p) (omega (arith, e)) (omega (arith, f, g))))
          | inr ne ↦ same_test (D x p) (between (at x) (wide x) (on p))
              (λ h.
              let n = s.nested x p l p_there b p_was ne h in
              let n0 = n.0 in
              let n1 = n.1 in
              is_between (at x) (wide x) (on p) (omega (arith, n0, e)) (omega (arith, f, g, n1, k)))
              (λ h.
              let q = between_is (at x) (wide x) (on p) h in
              let q0 = q.0 in
              let q1 = q.1 in
              elim (cases_lt (at p) (at x)) [
                | inr a ↦ elim (cases_lt (at p) (at x + wide x)) [
                  | inl c ↦ is_between (at x) (wide x) (at p) a c
                  | inr c ↦ absurd (omega (arith, c, e, q1))
                ]
                | inl a ↦
                    let n = (s.nested p x p_there l p_was b (λ z. ne (sym z)) (is_between (at p) (wide p) (at x) (omega (arith, a)) (omega (arith, q0, f, g)))).1 in
                    absurd (omega (arith, n, q1))
              ])
        ]

    abbrev place' : List ℕ
    place' = set place v (on p)

    abbrev next' : List ℕ
    next' = set (set next p (on p + wide v)) v (on p + 1)

    abbrev at' : ℕ → ℕ
    at' x = get_or place' x 0

    abbrev on' : ℕ → ℕ
    on' x = get_or next' x 0

    abbrev D' : ℕ → ℕ → Bool
    D' x u = part place' size x u

    old_other : (x : ℕ) → was x < i → x ≢ v
    old_other x b e = let a = ap was e in let c = v_was in omega (arith, a, b, c)

    at_v : at' v ≡ on p
    at_v = get_or-set_same place v (on p) 0 (let a = s.place_each in let b = v_there in omega (arith, a, b))

    at_old : (x : ℕ) → was x < i → at' x ≡ at x
    at_old x b = get_or-set_other place v x (on p) 0 (old_other x b)

    on_v : on' v ≡ on p + 1
    on_v = get_or-set_same (set next p (on p + wide v)) v (on p + 1) 0 (let a = length-set next p (on p + wide v) in let b = s.next_each in let c = v_there in omega (arith, a, b, c))

    on_p : on' p ≡ on p + wide v
    on_p =
        get_or-set_other (set next p (on p + wide v)) v p (on p + 1) 0 (old_other p p_was)
        ∙ get_or-set_same next p (on p + wide v) 0 (let a = s.next_each in let b = p_there in omega (arith, a, b))

    on_old : (x : ℕ) → was x < i → x ≢ p → on' x ≡ on x
    on_old x b ne = get_or-set_other (set next p (on p + wide v)) v x (on p + 1) 0 (old_other x b) ∙ get_or-set_other next p x (on p + wide v) 0 ne

    on_more : (x : ℕ) → was x < i → on x ≤ on' x
    on_more x b = elim (cases_eq x p) [
      | inl e ↦ subst (λ y. on y ≤ on' y) (sym e) (let a = on_p in omega (arith, a))
      | inr ne ↦ let a = on_old x b ne in omega (arith, a)
    ]

    was_before : (x : ℕ) → x < nodes → was x < suc i → x ≢ v → was x < i
    was_before x l b ne = elim (cases_eq (was x) i) [
      | inl e ↦ absurd (ne (same_place nodes edges tree order old parent r x v l v_there (e ∙ sym v_was)))
      | inr other ↦ omega (arith, b, other)
    ]

    D_old : (x u : ℕ) → was x < i → was u < i → D' x u ≡ D x u
    D_old x u b c = ap (λ z. between z (wide x) (at' u)) (at_old x b) ∙ ap (λ z. between (at x) (wide x) z) (at_old u c)

    -- v is held as p is
    D_to_v : (x : ℕ) → x < nodes → was x < i → D' x v ≡ D x p
    D_to_v x l b = ap (λ z. between z (wide x) (at' v)) (at_old x b) ∙ (ap (λ z. between (at x) (wide x) z) at_v ∙ sym (holds_place x l b))

    -- v holds none of the others
    D_of_v : (x : ℕ) → x < nodes → was x < i → D' v x ≡ false
    D_of_v x l b =
        let a = at_v in
        let c = at_old x b in
        elim (free x l b) [
          | inl o ↦ before_it (at' v) (wide v) (at' x) (omega (arith, a, c, o))
          | inr o ↦ behind_it (at' v) (wide v) (at' x) (omega (arith, a, c, o))
        ]

    -- nothing that comes up to here hangs on v
    none_on_v : hung_size order (above edges parent) size v (suc i) count ≡ hung_size order (above edges parent) size v 1 (nodes - 1)
    none_on_v =
        let split : i + count ≡ nodes - 1 = omega (arith, all) in
        let begin : 1 + i ≡ suc i = omega arith in
        let h = hung_none order (above edges parent) size v i count 1 (λ j a b e.
        let o = r.in_order j (omega (arith, b, all)) in
        let o1 = o.1 in
        let z = above_earlier nodes edges tree order old parent r (get_or order j 0) o.0 (omega (arith, o1, a)) in
        let y = ap was e in
        let q = v_was in
        omega (arith, z, y, q, o1, b))
        in
        sym (ap (hung_size order (above edges parent) size v 1) (sym split) ∙ (h ∙ ap (λ j. hung_size order (above edges parent) size v j count) begin))

    room' : (x : ℕ) → x < nodes → was x < suc i → on' x + hung_size order (above edges parent) size x (suc i) count ≡ at' x + wide x
    room' x l b = elim (cases_eq x v) [
      | inl e ↦
          let a = none_on_v in
          let c = sizes.sums v v_there in
          let d = on_v in
          let f = at_v in
          subst (λ y. on' y + hung_size order (above edges parent) size y (suc i) count ≡ at' y + wide y) (sym e) (omega (arith, a, c, d, f))
      | inr nv ↦
          let bx = was_before x l b nv in
          let a = s.room x l bx in
          let c = at_old x bx in
          elim (cases_eq x p) [
            | inl e ↦
                let d = ap (λ z. cond z (wide v) 0) (eq-eqb p x (sym e)) in
                let f = ap on' e ∙ on_p in
                let g = ap on e in
                omega (arith, a, c, d, f, g)
            | inr np ↦
                let d = ap (λ z. cond z (wide v) 0) (ne_eqb p x (λ e. np (sym e))) in
                let f = on_old x bx np in
                omega (arith, a, c, d, f)
          ]
    ]

    nested' : (q x : ℕ) → q < nodes → x < nodes → was q < suc i → was x < suc i → q ≢ x → D' q x ≡ true → (at' q < at' x) × (at' x + wide x ≤ on' q)
    nested' q x lq lx bq bx ne h = elim (cases_eq x v) [
      | inl e ↦
          let nq : q ≢ v = λ z. ne (z ∙ sym e) in
          let oq = was_before q lq bq nq in
          let a = at_v in
          let b = at_old q oq in
          let held : D q p ≡ true = sym (D_to_v q lq oq) ∙ subst (λ y. D' q y ≡ true) e h in
          let d = late_p in
          subst (λ y. (at' q < at' y) × (at' y + wide y ≤ on' q)) (sym e) (elim (cases_eq q p) [
            | inl f ↦
                let g = ap on' f ∙ on_p in
                let k = ap at f in
                (omega (arith, a, b, d, k), omega (arith, a, g))
            | inr f ↦
                let n = s.nested q p lq p_there oq p_was f held in
                let n0 = n.0 in
                let n1 = n.1 in
                let g = on_old q oq f in
                let k = room_on in
                (omega (arith, a, b, d, n0), omega (arith, a, g, k, n1))
          ])
      | inr nv ↦
          let ox = was_before x lx bx nv in
          elim (cases_eq q v) [
            | inl e ↦ clash (D' v x) (subst (λ y. D' y x ≡ true) e h) (D_of_v x lx ox)
            | inr nq ↦
                let oq = was_before q lq bq nq in
                let n = s.nested q x lq lx oq ox ne (sym (D_old q x oq ox) ∙ h) in
                let n0 = n.0 in
                let n1 = n.1 in
                let a = at_old q oq in
                let b = at_old x ox in
                let c = on_more q oq in
                (omega (arith, a, b, n0), omega (arith, b, c, n1))
          ]
    ]

    climbs' : (x u : ℕ) → x < nodes → u < nodes → was x < suc i → was u < suc i → 0 < was u → u ≢ x → D' x u ≡ D' x (up u)
    climbs' x u lx lu bx bu late ne = elim (cases_eq u v) [
      | inl e ↦
          let nx : x ≢ v = λ z. ne (e ∙ sym z) in
          let ox = was_before x lx bx nx in
          subst (λ y. D' x y ≡ D' x (up y)) (sym e) (D_to_v x lx ox ∙ sym (D_old x p ox p_was))
      | inr nu ↦
          let ou = was_before u lu bu nu in
          let lp = above_there nodes edges tree order old parent r u ends lu late in
          let bp : was (up u) < i = let a = above_earlier nodes edges tree order old parent r u lu late in omega (arith, a, ou) in
          elim (cases_eq x v) [
            | inl e ↦ subst (λ y. D' y u ≡ D' y (up u)) (sym e) (D_of_v u lu ou ∙ sym (D_of_v (up u) lp bp))
            | inr nx ↦
                let ox = was_before x lx bx nx in
                D_old x u ox ou ∙ (s.climbs x u lx lu ox ou late ne ∙ sym (D_old x (up u) ox bp))
          ]
    ]

    placed_next : ArePlacedTo nodes order old (above edges parent) size (suc i) count place' next'
    placed_next = record {
      place_each = length-set place v (on p) ∙ s.place_each;
      next_each = length-set (set next p (on p + wide v)) v (on p + 1) ∙ (length-set next p (on p + wide v) ∙ s.next_each);
      root = at_old 0 (let a = root_place nodes edges tree order old parent r in omega (arith, a, some)) ∙ s.root;
      begins = λ x l b. elim (cases_eq x v) [
        | inl e ↦ subst (λ y. at' y < on' y) (sym e) (let a = at_v in let c = on_v in omega (arith, a, c))
        | inr ne ↦
            let o = was_before x l b ne in
            let a = at_old x o in
            let c = on_more x o in
            let d = s.begins x l o in
            omega (arith, a, c, d)
      ];
      room = room';
      nested = nested';
      climbs = climbs';
      fits = λ x l b. elim (cases_eq x v) [
        | inl e ↦ subst (λ y. at' y + wide y ≤ nodes) (sym e) (let a = at_v in let c = ends_before in omega (arith, a, c))
        | inr ne ↦
            let o = was_before x l b ne in
            let a = at_old x o in
            let c = s.fits x l o in
            omega (arith, a, c)
      ];
    }

    pub placed_more : (u : ℕ) (place2 next2 : List ℕ) → u ≡ p → TakesPlace v u size place next place2 next2 → ArePlacedTo nodes order old (above edges parent) size (suc i) count place2 next2
    placed_more u place2 next2 e t =
        let t1 : TakesPlace v p size place next place2 next2 = subst (λ z. TakesPlace v z size place next place2 next2) e t in
        subst (λ z. ArePlacedTo nodes order old (above edges parent) size (suc i) count z next2) (sym t1.place_is)
        (subst (λ z. ArePlacedTo nodes order old (above edges parent) size (suc i) count place' z) (sym t1.next_is) placed_next)

  pub placed_end : (i : ℕ) (place next : List ℕ) → nodes ≤ i → ArePlacedTo nodes order old (above edges parent) size i (nodes - i) place next → AreWalkPlaces nodes (above edges parent) size place
  placed_end i place next all s =
      let in_time : (v : ℕ) → v < nodes → was v < i = λ v l. let a = (r.placed v l refl).0 in omega (arith, a, all) in
      record {
        place_each = s.place_each;
        root = s.root;
        fits = λ v l. s.fits v l (in_time v l);
        apart = λ u v lu lv e. elim (cases_eq u v) [
          | inl same ↦ same
          | inr ne ↦
              let w = some_wide u lu in
              let a = (s.nested u v lu lv (in_time u lu) (in_time v lv) ne (is_between (get_or place u 0) (wide u) (get_or place v 0) (omega (arith, e)) (omega (arith, e, w)))).0 in
              absurd (omega (arith, a, e))
        ];
        climbs = λ v u lv lu no ne. s.climbs v u lv lu (in_time v lv) (in_time u lu) (not_root nodes edges tree order old parent r u lu no) ne;
      }

-- of the first n nodes one has this place
abbrev stands : List ℕ → ℕ → ℕ → Bool
stands place zero q = false
stands place (suc n) q = eqb (get_or place n 0) q || stands place n q

stood : (place : List ℕ) (n q : ℕ) → stands place n q ≡ true → (v : ℕ) × (v < n) × (get_or place v 0 ≡ q)
stood place zero q h = absurd cc
stood place (suc n) q h = elim (cases_eq (get_or place n 0) q) [
  | inl e ↦ (n, omega arith, e)
  | inr ne ↦
      let r = stood place n q (sym (ap (λ z. z || stands place n q) (ne_eqb (get_or place n 0) q ne)) ∙ h) in
      let b = r.1 in
      (r.0, omega (arith, b), r.2)
]

not_stood : (place : List ℕ) (n q : ℕ) → ((v : ℕ) → v < n → get_or place v 0 ≢ q) → stands place n q ≡ false
not_stood place zero q h = refl
not_stood place (suc n) q h =
    ap (λ z. z || stands place n q) (ne_eqb (get_or place n 0) q (h n (omega arith))) ∙ not_stood place n q (λ v l. h v (omega (arith, l)))

count_stood : (place : List ℕ) (nodes n : ℕ) → ((v : ℕ) → v < n → get_or place v 0 < nodes) → ((u v : ℕ) → u < n → v < n → get_or place u 0 ≡ get_or place v 0 → u ≡ v) → holding (stands place n) nodes ≡ n
count_stood place nodes zero there apart = holding_none (stands place 0) nodes (λ v l. refl)
count_stood place nodes (suc n) there apart =
    let r = count_stood place nodes n (λ v l. there v (omega (arith, l))) (λ u v a b e. apart u v (omega (arith, a)) (omega (arith, b)) e) in
    let q = get_or place n 0 in
    let m = holding_more (stands place n) (stands place (suc n)) nodes q (there n (omega arith))
    (not_stood place n q (λ v l e. let z = apart v n (omega (arith, l)) (omega arith) e in omega (arith, z, l)))
    (ap (λ z. z || stands place n q) (eq-eqb q q refl))
    (λ u l ne. ap (λ z. z || stands place n u) (ne_eqb q u (λ e. ne (sym e))))
    in
    omega (arith, r, m)

-- nodes that stand apart take each place
pub each_taken : (place : List ℕ) (nodes : ℕ) → ((v : ℕ) → v < nodes → get_or place v 0 < nodes) → ((u v : ℕ) → u < nodes → v < nodes → get_or place u 0 ≡ get_or place v 0 → u ≡ v) → (q : ℕ) → q < nodes → (v : ℕ) × (v < nodes) × (get_or place v 0 ≡ q)
each_taken place nodes there apart q l = elim (cases_Bool (stands place nodes q)) [
  | inl h ↦ stood place nodes q h
  | inr h ↦
      let a = count_stood place nodes nodes there apart in
      let b = holding_room (stands place nodes) nodes q l h in
      absurd (omega (arith, a, b))
]

module _ (nodes : ℕ) (edges : List NetEdge) (tree : List Bool) (order old parent : List ℕ) (r : IsRooted nodes edges tree order old parent) (ends : EndsBelow nodes edges) (size : List ℕ) (sizes : AreSizes nodes order (above edges parent) size) (place : List ℕ) (p : AreWalkPlaces nodes (above edges parent) size place) where
  pub all_there : (v : ℕ) → v < nodes → get_or place v 0 < nodes
  all_there v l = let a = p.fits v l in let b = some_wide nodes edges tree order old parent r ends size sizes v l in omega (arith, a, b)

  no_root : (v : ℕ) → v < nodes → 0 < get_or place v 0 → v ≢ 0
  no_root v l b e = let a = ap (λ z. get_or place z 0) e in let c = p.root in omega (arith, a, b, c)

  late_still : (v : ℕ) → v < nodes → 0 < get_or place v 0 → 0 < get_or old v 0
  late_still v l b = not_root nodes edges tree order old parent r v l (no_root v l b)

  module _ (order' : List ℕ) (n : length order' ≡ nodes) (told : (v : ℕ) → v < nodes → get_or order' (get_or place v 0) 0 ≡ v) where
    in_order' : (q : ℕ) → q < nodes → (get_or order' q 0 < nodes) × (get_or place (get_or order' q 0) 0 ≡ q)
    in_order' q l =
        let t = each_taken place nodes all_there p.apart q l in
        let node : get_or order' q 0 ≡ t.0 = ap (λ z. get_or order' z 0) (sym t.2) ∙ told t.0 t.1 in
        subst (λ z. (z < nodes) × (get_or place z 0 ≡ q)) (sym node) (t.1, t.2)

    pub first_walk : IsWalk nodes order' place size (above edges parent)
    first_walk = record {
      order_each = n;
      place_each = p.place_each;
      size_each = sizes.size_each;
      root_first = ap (λ z. get_or order' z 0) (sym p.root) ∙ told 0 r.begun;
      in_order = in_order';
      placed = λ v l. (all_there v l, told v l);
      some = some_wide nodes edges tree order old parent r ends size sizes;
      fits = p.fits;
      up_there = λ v l b. above_there nodes edges tree order old parent r v ends l (late_still v l b);
      up_other = λ v l b e. let a = above_earlier nodes edges tree order old parent r v l (late_still v l b) in let z = ap (λ x. get_or old x 0) e in omega (arith, a, z);
      climbs = λ v u lv lu b ne. p.climbs v u lv lu (no_root u lu b) ne;
    }

    pub first_rooted : IsRooted nodes edges tree order' place parent
    first_rooted = record {
      order_each = n;
      place_each = p.place_each;
      parent_each = r.parent_each;
      counted = sym (holding_all all_held nodes (λ v l. refl));
      begun = r.begun;
      root_first = first_walk.root_first;
      no_parent = r.no_parent;
      in_order = λ q l. let o = in_order' q l in (o.0, o.1, refl);
      placed = λ v l h. (all_there v l, told v l);
      hangs = λ v l h b.
          let g = r.hangs v l refl (late_still v l b) in
          record {
            is_there = g.is_there;
            has_mark = g.has_mark;
            at_end = g.at_end;
            holds = refl;
            earlier = earlier nodes order' place size (above edges parent) first_walk v l b;
          };
    }
