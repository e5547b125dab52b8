-- One node more hangs on the tree.
use Rattle.std.proofs.Common.{◌≡◌, ◌≢◌, ℕ, zero, suc, ◌+◌, ◌<◌, ◌≤◌, cond, Bool, true, false, ◌⊎◌, List, length, set, get_or, arith, refl, sym, ap, subst, ◌∙◌, inl, inr}
use Rattle.std.proofs.lemmas.Bool.{cases_eq, cases_Bool}
use Rattle.std.proofs.lemmas.List.{get_or-set_same, get_or-set_other, length-set}
use Rattle.network_laws.specs.declared.network.NetEdge.{NetEdge}
use Rattle.network_laws.specs.Network.{edge_at, EndsBelow}
use Rattle.network_laws.specs.Linked.{is_marked}
use Rattle.net_simplex.specs.Rooted.{beyond, holding, HangsBy, IsPlanted, IsRooted, all_held}
use Rattle.net_simplex.proofs.Hanging.{beyond_is_end}
use Rattle.net_simplex.proofs.Walking.{clash}

abbrev pub one : Bool → ℕ
one b = cond b 1 0

pub holding_same : (test test' : ℕ → Bool) (n : ℕ) → ((v : ℕ) → v < n → test v ≡ test' v) → holding test n ≡ holding test' n
holding_same test test' zero h = refl
holding_same test test' (suc n) h =
    let r = holding_same test test' n (λ v l. h v (omega (arith, l))) in
    let a = ap one (h n (omega arith)) in
    omega (arith, r, a)

pub holding_le : (test : ℕ → Bool) (n : ℕ) → holding test n ≤ n
holding_le test zero = omega arith
holding_le test (suc n) =
    let r = holding_le test n in
    elim (cases_Bool (test n)) [
      | inl t ↦ let a = ap one t in omega (arith, r, a)
      | inr t ↦ let a = ap one t in omega (arith, r, a)
    ]

pub holding_room : (test : ℕ → Bool) (n v : ℕ) → v < n → test v ≡ false → holding test n < n
holding_room test zero v l h = absurd (omega (arith, l))
holding_room test (suc n) v l h =
    elim (cases_eq v n) [
      | inl e ↦
          let r = holding_le test n in
          let a = ap one (ap test (sym e) ∙ h) in
          omega (arith, r, a)
      | inr ne ↦
          let r = holding_room test n v (omega (arith, l, ne)) h in
          elim (cases_Bool (test n)) [
            | inl t ↦ let a = ap one t in omega (arith, r, a)
            | inr t ↦ let a = ap one t in omega (arith, r, a)
          ]
    ]

pub holding_more : (test test' : ℕ → Bool) (n v : ℕ) → v < n → test v ≡ false → test' v ≡ true → ((u : ℕ) → u < n → u ≢ v → test' u ≡ test u) → holding test n + 1 ≡ holding test' n
holding_more test test' zero v l f t h = absurd (omega (arith, l))
holding_more test test' (suc n) v l f t h =
    elim (cases_eq v n) [
      | inl e ↦
          let r = holding_same test test' n (λ u b. sym (h u (omega (arith, b)) (omega (arith, b, e)))) in
          let a = ap one (ap test (sym e) ∙ f) in
          let b = ap one (ap test' (sym e) ∙ t) in
          omega (arith, r, a, b)
      | inr ne ↦
          let r = holding_more test test' n v (omega (arith, l, ne)) f t (λ u b. h u (omega (arith, b))) in
          let a = ap one (h n (omega arith) (λ e. ne (sym e))) in
          omega (arith, r, a)
    ]

pub holding_none : (test : ℕ → Bool) (n : ℕ) → ((v : ℕ) → v < n → test v ≡ false) → holding test n ≡ 0
holding_none test zero h = refl
holding_none test (suc n) h =
    let r = holding_none test n (λ v l. h v (omega (arith, l))) in
    let a = ap one (h n (omega arith)) in
    omega (arith, r, a)

pub holding_all : (test : ℕ → Bool) (n : ℕ) → ((v : ℕ) → v < n → test v ≡ true) → holding test n ≡ n
holding_all test zero h = refl
holding_all test (suc n) h =
    let r = holding_all test n (λ v l. h v (omega (arith, l))) in
    let a = ap one (h n (omega arith)) in
    omega (arith, r, a)

-- the root alone
pub planted_root : (nodes : ℕ) (edges : List NetEdge) (tree : List Bool) (held : ℕ → Bool) (order place parent : List ℕ) → 0 < nodes → length order ≡ nodes → length place ≡ nodes → length parent ≡ nodes → get_or parent 0 0 ≡ length edges → held 0 ≡ true → ((v : ℕ) → v < nodes → v ≢ 0 → held v ≡ false) → IsPlanted nodes edges tree held 1 (set order 0 0) (set place 0 0) parent
planted_root nodes edges tree held order place parent some lo lp la root h only =
    let first : get_or (set order 0 0) 0 0 ≡ 0 = get_or-set_same order 0 0 0 (omega (arith, lo, some)) in
    let at : get_or (set place 0 0) 0 0 ≡ 0 = get_or-set_same place 0 0 0 (omega (arith, lp, some)) in
    let is_first : (p : ℕ) → p < 1 → p ≡ 0 = λ p l. omega (arith, l) in
    let is_root : (v : ℕ) → v < nodes → held v ≡ true → v ≡ 0 = λ v l m. elim (cases_eq v 0) [
      | inl e ↦ e
      | inr ne ↦ clash (held v) m (only v l ne)
    ] in
    let none : ℕ → Bool = λ v. false in
    record {
      order_each = length-set order 0 0 ∙ lo;
      place_each = length-set place 0 0 ∙ lp;
      parent_each = la;
      counted = let a = holding_more none held nodes 0 some refl h (λ u l ne. only u l ne) in let z = holding_none none nodes (λ v l. refl) in omega (arith, a, z);
      begun = omega arith;
      root_first = first;
      no_parent = root;
      in_order = λ p l. subst (λ x. (get_or (set order 0 0) x 0 < nodes) × (get_or (set place 0 0) (get_or (set order 0 0) x 0) 0 ≡ x) × (held (get_or (set order 0 0) x 0) ≡ true)) (sym (is_first p l)) (omega (arith, first, some), ap (λ x. get_or (set place 0 0) x 0) first ∙ at, ap held first ∙ h);
      placed = λ v l m. let e = is_root v l m in subst (λ x. (get_or (set place 0 0) x 0 < 1) × (get_or (set order 0 0) (get_or (set place 0 0) x 0) 0 ≡ x)) (sym e) (omega (arith, at), ap (λ x. get_or (set order 0 0) x 0) at ∙ first);
      hangs = λ v l m b. let e = ap (λ x. get_or (set place 0 0) x 0) (is_root v l m) in absurd (omega (arith, e, at, b));
    }

module _ (nodes : ℕ) (edges : List NetEdge) (tree : List Bool) (held : ℕ → Bool) (count : ℕ) (order place parent : List ℕ) (s : IsPlanted nodes edges tree held count order place parent) (ends : EndsBelow nodes edges) where
  beyond_there : (v k : ℕ) → k < length edges → beyond (edge_at edges k) v < nodes
  beyond_there v k l =
      elim (beyond_is_end (edge_at edges k) v) [
        | inl x ↦ subst (λ y. y < nodes) (sym x) (ends k l).0
        | inr x ↦ subst (λ y. y < nodes) (sym x) (ends k l).1
      ]

  pub root_held : held 0 ≡ true
  root_held = subst (λ x. held x ≡ true) s.root_first ((s.in_order 0 s.begun).2)

  pub planted_same : (held' : ℕ → Bool) → ((v : ℕ) → v < nodes → held v ≡ held' v) → IsPlanted nodes edges tree held' count order place parent
  planted_same held' h = record {
    order_each = s.order_each;
    place_each = s.place_each;
    parent_each = s.parent_each;
    counted = s.counted ∙ holding_same held held' nodes h;
    begun = s.begun;
    root_first = s.root_first;
    no_parent = s.no_parent;
    in_order = λ p l. let o = s.in_order p l in (o.0, o.1, sym (h (get_or order p 0) o.0) ∙ o.2);
    placed = λ v l m. s.placed v l (h v l ∙ m);
    hangs = λ v l m b. let g = s.hangs v l (h v l ∙ m) b in record {
      is_there = g.is_there;
      has_mark = g.has_mark;
      at_end = g.at_end;
      holds = sym (h (beyond (edge_at edges (get_or parent v 0)) v) (beyond_there v (get_or parent v 0) g.is_there)) ∙ g.holds;
      earlier = g.earlier;
    };
  }

  module _ (tree' : List Bool) (still : (k : ℕ) → k < length edges → is_marked tree k ≡ true → is_marked tree' k ≡ true) (held' : ℕ → Bool) (v k : ℕ) (lv : v < nodes) (out : held v ≡ false) (now_in : held' v ≡ true) (others : (u : ℕ) → u < nodes → u ≢ v → held' u ≡ held u) (parent' : List ℕ) (long : length parent' ≡ nodes) (kept : (u : ℕ) → u < nodes → held u ≡ true → get_or parent' u 0 ≡ get_or parent u 0) (hung : get_or parent' v 0 ≡ k) (lk : k < length edges) (mk : is_marked tree' k ≡ true) (at : ((edge_at edges k).tail ≡ v) ⊎ ((edge_at edges k).head ≡ v)) (on : held (beyond (edge_at edges k) v) ≡ true) where
    pub room : count < nodes
    room = let a = s.counted in let b = holding_room held nodes v lv out in omega (arith, a, b)

    was_other : (u : ℕ) → held u ≡ true → u ≢ v
    was_other u m e = clash (held v) (subst (λ x. held x ≡ true) e m) out

    abbrev order' : List ℕ
    order' = set order count v

    abbrev place' : List ℕ
    place' = set place v count

    order_at : (p : ℕ) → p < count → get_or order' p 0 ≡ get_or order p 0
    order_at p l = get_or-set_other order count p v 0 (omega (arith, l))

    order_last : get_or order' count 0 ≡ v
    order_last = get_or-set_same order count v 0 (let a = s.order_each in let b = room in omega (arith, a, b))

    place_at : (u : ℕ) → held u ≡ true → get_or place' u 0 ≡ get_or place u 0
    place_at u m = get_or-set_other place v u count 0 (was_other u m)

    place_last : get_or place' v 0 ≡ count
    place_last = get_or-set_same place v count 0 (let a = s.place_each in omega (arith, a, lv))

    still_held : (u : ℕ) → u < nodes → held u ≡ true → held' u ≡ true
    still_held u l m = others u l (was_other u m) ∙ m

    new_hangs : HangsBy edges tree' held' place' v k
    new_hangs =
        let u = beyond (edge_at edges k) v in
        let lu = beyond_there v k lk in
        let e = place_at u on in
        let p = (s.placed u lu on).0 in
        let q = place_last in
        record {
          is_there = lk;
          has_mark = mk;
          at_end = at;
          holds = still_held u lu on;
          earlier = omega (arith, e, p, q);
        }

    old_hangs : (w : ℕ) → w < nodes → held w ≡ true → 0 < get_or place w 0 → HangsBy edges tree' held' place' w (get_or parent w 0)
    old_hangs w l m b =
        let g = s.hangs w l m b in
        let u = beyond (edge_at edges (get_or parent w 0)) w in
        let lu = beyond_there w (get_or parent w 0) g.is_there in
        let e = place_at u g.holds in
        let f = place_at w m in
        let h = g.earlier in
        record {
          is_there = g.is_there;
          has_mark = still (get_or parent w 0) g.is_there g.has_mark;
          at_end = g.at_end;
          holds = still_held u lu g.holds;
          earlier = omega (arith, e, f, h);
        }

    pub planted_more : IsPlanted nodes edges tree' held' (count + 1) order' place' parent'
    planted_more = record {
      order_each = length-set order count v ∙ s.order_each;
      place_each = length-set place v count ∙ s.place_each;
      parent_each = long;
      counted = let a = s.counted in let b = holding_more held held' nodes v lv out now_in others in omega (arith, a, b);
      begun = omega arith;
      root_first = order_at 0 s.begun ∙ s.root_first;
      no_parent = kept 0 (omega (arith, lv)) root_held ∙ s.no_parent;
      in_order = λ p l. elim (cases_eq p count) [
        | inl e ↦ subst (λ x. (get_or order' x 0 < nodes) × (get_or place' (get_or order' x 0) 0 ≡ x) × (held' (get_or order' x 0) ≡ true)) (sym e) (let o = order_last in omega (arith, o, lv), ap (λ x. get_or place' x 0) order_last ∙ place_last, ap held' order_last ∙ now_in)
        | inr ne ↦
            let b : p < count = omega (arith, l, ne) in
            let o = s.in_order p b in
            let a = order_at p b in
            let w = get_or order p 0 in
            (let c = o.0 in omega (arith, a, c), ap (λ x. get_or place' x 0) a ∙ (place_at w o.2 ∙ o.1), ap held' a ∙ still_held w o.0 o.2)
      ];
      placed = λ w l m. elim (cases_eq w v) [
        | inl e ↦ subst (λ x. (get_or place' x 0 < count + 1) × (get_or order' (get_or place' x 0) 0 ≡ x)) (sym e) (let q = place_last in omega (arith, q), ap (λ x. get_or order' x 0) place_last ∙ order_last)
        | inr ne ↦
            let h : held w ≡ true = sym (others w l ne) ∙ m in
            let o = s.placed w l h in
            let e = place_at w h in
            (let c = o.0 in omega (arith, e, c), ap (λ x. get_or order' x 0) e ∙ (order_at (get_or place w 0) o.0 ∙ o.1))
      ];
      hangs = λ w l m b. elim (cases_eq w v) [
        | inl e ↦ subst (λ x. HangsBy edges tree' held' place' x (get_or parent' x 0)) (sym e) (subst (λ j. HangsBy edges tree' held' place' v j) (sym hung) new_hangs)
        | inr ne ↦
            let h : held w ≡ true = sym (others w l ne) ∙ m in
            let e = place_at w h in
            subst (λ j. HangsBy edges tree' held' place' w j) (sym (kept w l h)) (old_hangs w l h (omega (arith, e, b)))
      ];
    }

-- all nodes are held
pub all_planted : (nodes : ℕ) (edges : List NetEdge) (tree : List Bool) (held : ℕ → Bool) (count : ℕ) (order place parent : List ℕ) → IsPlanted nodes edges tree held count order place parent → EndsBelow nodes edges → ((v : ℕ) → v < nodes → held v ≡ true) → IsRooted nodes edges tree order place parent
all_planted nodes edges tree held count order place parent s ends all =
    let t = planted_same nodes edges tree held count order place parent s ends all_held all in
    let e : count ≡ nodes = t.counted ∙ holding_all all_held nodes (λ v l. refl) in
    subst (λ n. IsPlanted nodes edges tree all_held n order place parent) e t
