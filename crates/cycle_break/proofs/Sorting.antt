-- Sources are taken out one after the other.
use Rattle.std.proofs.Common.{◌≡◌, ◌≢◌, ◌⊎◌, ◌↔◌, ℕ, zero, suc, ◌+◌, ◌<◌, ◌≤◌, eq-eqb, nat_eq, cond, Bool, true, false, List, [], ◌∷◌, ◌++◌, length, Option, Some, None, IsSome, is_some, arith, refl, sym, ap, ◌∙◌, subst, inl, inr, ⊎_elim}
use Rattle.std.proofs.lemmas.Bool.{cases_eq, cases_lt}
use Rattle.std.proofs.lemmas.List.{get_or_past}
use Rattle.graph_arena.specs.Graph.{Graph, Lists, Ends, ends_at, lists_at, in_list, out_list, front, occurs, IsNode, IsEdge, IsIncidence}
use Rattle.graph_arena.specs.Changes.{RemovesEdge, IsSame, without}
use Rattle.graph_arena.specs.Paths.{Reaches}
use Rattle.graph_arena.specs.Paths.Reaches.{stay, go}
use Rattle.graph_arena.proofs.Counting.{few_below}
use Rattle.cycle_break.specs.Ways.{Step, HasCycle}
use Rattle.cycle_break.specs.Order.{IsTopological, place}
use Rattle.cycle_break.specs.Search.{Sorted, HasIn}
use Rattle.cycle_break.proofs.Lists.{eqb_other, occurs-append, occurs_one, occurs_none, occurs_within, place_kept, place_last, first_in_ends, first_out_ends, front_occurs, none_in, none_out}
use Rattle.graph_arena.proofs.Unlinking.{length-without}

same_ends : (x y : Ends) → Some x ≡ Some y → x ≡ y
same_ends x y h = cc

-- ---- an edge from the node was taken out

module _ (g work w1 : Graph) (early late ready : List ℕ) (node e : ℕ) (x : Ends) (s : Sorted g work early late ready) (at : ends_at work e ≡ Some x) (from : x.tail ≡ node) (r : RemovesEdge work w1 e x.tail x.head) (there : 0 < occurs node late) where
  left : (k : ℕ) (y : Ends) → ends_at w1 k ≡ Some y → ends_at work k ≡ Some y
  left k y h =
      elim (cases_eq k e) [
        | inl s ↦ let bad : None ≡ Some y = sym r.gone ∙ subst (λ (j : ℕ). ends_at w1 j ≡ Some y) s h in cc
        | inr n ↦ sym (r.other_edges k n) ∙ h
      ]

  still : (k : ℕ) (y : Ends) → ends_at g k ≡ Some y → occurs y.tail late ≡ 0 → ends_at w1 k ≡ Some y
  still k y h o =
      elim (cases_eq k e) [
        | inl q ↦
            let same : x ≡ y = same_ends x y (sym (s.sub e x at) ∙ subst (λ (j : ℕ). ends_at g j ≡ Some y) q h) in
            let z : occurs node late ≡ 0 = subst (λ (j : ℕ). occurs j late ≡ 0) (sym (ap (λ (z : Ends). z.tail) same) ∙ from) o in
            absurd (omega (arith, z, there))
        | inr n ↦ r.other_edges k n ∙ s.kept k y h o
      ]

  nodes : (v : ℕ) → IsNode w1 v ↔ IsNode g v
  nodes v = (λ h. (s.same_nodes v).0 ((r.same_nodes v).0 h), λ h. (r.same_nodes v).1 ((s.same_nodes v).1 h))

  in_or_head : (v : ℕ) → HasIn work v → HasIn w1 v ⊎ (v ≡ x.head)
  in_or_head v h =
      elim (cases_eq h.edge e) [
        | inl q ↦
            let same : h.ends ≡ x = same_ends h.ends x (sym h.is ∙ (ap (λ (j : ℕ). ends_at work j) q ∙ at)) in
            inr (sym h.enters ∙ ap (λ (z : Ends). z.head) same)
        | inr n ↦ inl (record { edge = h.edge; ends = h.ends; is = r.other_edges h.edge n ∙ h.is; enters = h.enters })
      ]

  pub sorted_keep : HasIn w1 x.head → Sorted g w1 early late ready
  sorted_keep enters =
      record {
        sub = λ k y h. s.sub k y (left k y h);
        kept = still;
        gone = λ k y h. s.gone k y (left k y h);
        same_nodes = nodes;
        once = s.once;
        listed = s.listed;
        met = λ v h. ⊎_elim (λ (z : 0 < occurs v late + occurs v ready). inl z)
            (λ (z : HasIn work v). ⊎_elim (λ (q : HasIn w1 v). inr q) (λ (q : v ≡ x.head). inr (subst (λ (j : ℕ). HasIn w1 j) (sym q) enters)) (in_or_head v z)) (s.met v h);
        clean = λ k y h. s.clean k y (left k y h);
        forward = s.forward;
      }

  more : (v : ℕ) → occurs v (ready ++ x.head ∷ []) ≡ occurs v ready + occurs v (x.head ∷ [])
  more v = occurs-append v ready (x.head ∷ [])

  pub sorted_push : IsNode work x.head → ((k : ℕ) (y : Ends) → ends_at w1 k ≡ Some y → y.head ≢ x.head) → Sorted g w1 early late (ready ++ x.head ∷ [])
  sorted_push live none =
      record {
        sub = λ k y h. s.sub k y (left k y h);
        kept = still;
        gone = λ k y h. s.gone k y (left k y h);
        same_nodes = nodes;
        once = λ v. elim (cases_eq v x.head) [
          | inl q ↦ subst (λ (j : ℕ). occurs j late + occurs j (ready ++ x.head ∷ []) ≤ 1) (sym q) (omega (arith, s.clean e x at, more x.head, occurs_one x.head))
          | inr n ↦ let z = occurs_none v x.head (λ i. n (sym i)) in omega (arith, s.once v, more v, z)
        ];
        listed = λ v h. elim (cases_eq v x.head) [
          | inl q ↦ subst (λ (j : ℕ). IsNode g j) (sym q) ((s.same_nodes x.head).0 live)
          | inr n ↦ let z = occurs_none v x.head (λ i. n (sym i)) in s.listed v (omega (arith, h, more v, z))
        ];
        met = λ v h. ⊎_elim (λ (z : 0 < occurs v late + occurs v ready). inl (omega (arith, z, more v)))
            (λ (z : HasIn work v). ⊎_elim (λ (q : HasIn w1 v). inr q) (λ (q : v ≡ x.head). inl (subst (λ (j : ℕ). 0 < occurs j late + occurs j (ready ++ x.head ∷ [])) (sym q) (omega (arith, more x.head, occurs_one x.head)))) (in_or_head v z)) (s.met v h);
        clean = λ k y h.
            let n = none k y h in
            let z = occurs_none y.head x.head (λ i. n (sym i)) in omega (arith, s.clean k y (left k y h), more y.head, z);
        forward = s.forward;
      }

pub sorted_done : (g work : Graph) (early late ready : List ℕ) (node : ℕ) → Sorted g work early late ready → IsIncidence work → front (out_list work node) ≡ None → ((v : ℕ) → v ≢ node → occurs v late ≡ occurs v early) → Sorted g work late late ready
sorted_done g work early late ready node s i none others =
    record {
      sub = s.sub;
      kept = s.kept;
      gone = λ e x h. others x.tail (none_out work node e x i none h) ∙ s.gone e x h;
      same_nodes = s.same_nodes;
      once = s.once;
      listed = s.listed;
      met = s.met;
      clean = s.clean;
      forward = s.forward;
    }

-- ---- a source is the next in the order

pub sorted_move : (g work : Graph) (done ready : List ℕ) (n : ℕ) → Sorted g work done done (ready ++ n ∷ []) → Sorted g work done (done ++ n ∷ []) ready
sorted_move g work done ready n s =
    let a : (v : ℕ) → occurs v (done ++ n ∷ []) ≡ occurs v done + occurs v (n ∷ []) = λ v. occurs-append v done (n ∷ []) in
    let b : (v : ℕ) → occurs v (ready ++ n ∷ []) ≡ occurs v ready + occurs v (n ∷ []) = λ v. occurs-append v ready (n ∷ []) in
    let fresh : occurs n done ≡ 0 = let o = s.once n in omega (arith, o, b n, occurs_one n) in
    record {
      sub = s.sub;
      kept = λ e x h o. s.kept e x h (let z = a x.tail in omega (arith, o, z));
      gone = s.gone;
      same_nodes = s.same_nodes;
      once = λ v. omega (arith, s.once v, a v, b v);
      listed = λ v h. s.listed v (omega (arith, h, a v, b v));
      met = λ v h. ⊎_elim (λ (z : 0 < occurs v done + occurs v (ready ++ n ∷ [])). inl (omega (arith, z, a v, b v))) (λ (z : HasIn work v). inr z) (s.met v h);
      clean = λ e x h. omega (arith, s.clean e x h, a x.head, b x.head);
      forward = λ e x h o. ⊎_elim
          (λ (z : 0 < occurs x.head done).
          let f = s.forward e x h z in
          (omega (arith, f.0, a x.tail), rw (place_kept x.tail done (n ∷ []) f.0, place_kept x.head done (n ∷ []) z) f.1))
          (λ (z : x.head ≡ n).
          let t = tail_done e x h z in
          (omega (arith, t, a x.tail), rw (place_kept x.tail done (n ∷ []) t, z, place_last n done fresh) (occurs_within x.tail done t)))
          (old_or_new x o);
    }
  where
    old_or_new : (x : Ends) → 0 < occurs x.head (done ++ n ∷ []) → (0 < occurs x.head done) ⊎ (x.head ≡ n)
    old_or_new x o =
        elim (cases_eq x.head n) [
          | inl q ↦ inr q
          | inr d ↦ inl (let z = occurs_none x.head n (λ i. d (sym i)) in let a = occurs-append x.head done (n ∷ []) in omega (arith, o, z, a))
        ]

    tail_done : (e : ℕ) (x : Ends) → ends_at g e ≡ Some x → x.head ≡ n → 0 < occurs x.tail done
    tail_done e x h q =
        elim (cases_eq (occurs x.tail done) 0) [
          | inl z ↦
              let k = s.clean e x (s.kept e x h z) in
              let k2 : occurs n done + occurs n (ready ++ n ∷ []) ≡ 0 = subst (λ (j : ℕ). occurs j done + occurs j (ready ++ n ∷ []) ≡ 0) q k in
              let b = occurs-append n ready (n ∷ []) in
              absurd (omega (arith, k2, b, occurs_one n))
          | inr d ↦ omega (arith, d)
        ]

pub node_below : (g : Graph) (v : ℕ) → IsNode g v → v < length g.nodes
node_below g v h =
    elim (cases_lt v (length g.nodes)) [
      | inl l ↦ l
      | inr q ↦ let e = rw (get_or_past g.nodes v None q) at h in cc
    ]

-- there are at most as many sources as nodes
pub few_done : (g work : Graph) (early late ready : List ℕ) → Sorted g work early late ready → length late ≤ length g.nodes
few_done g work early late ready s =
    few_below (length g.nodes) late (λ k. omega (arith, s.once k))
    (λ k l. elim (cases_eq (occurs k late) 0) [
      | inl z ↦ z
      | inr d ↦ let n = node_below g k (s.listed k (omega (arith, d))) in absurd (omega (arith, n, l))
    ])

-- ---- what is left has a cycle

walk : (g : Graph) (n : ℕ) (bad : ℕ → Bool) → ((x : ℕ) → bad x ≡ true → (y : ℕ) × (bad y ≡ true) × Step g y x) → ((x : ℕ) → bad x ≡ true → x < n) → (fuel x : ℕ) (seen : List ℕ) → bad x ≡ true → ((k : ℕ) → occurs k seen ≤ 1) → ((k : ℕ) → n ≤ k → occurs k seen ≡ 0) → ((z : ℕ) → 0 < occurs z seen → Reaches (Step g) x z) → n < length seen + fuel → HasCycle g
walk g n bad back small zero x seen b once below from long = absurd (let f = few_below n seen once below in omega (arith, f, long))
walk g n bad back small (suc fuel) x seen b once below from long =
    let y = back x b in
    elim (cases_eq (occurs y.0 seen) 0) [
      | inl z ↦
          walk g n bad back small fuel y.0 (y.0 ∷ seen) y.1
          (λ k. elim (cases_eq y.0 k) [
            | inl e ↦ let o = subst (λ (j : ℕ). occurs j seen ≡ 0) e z in rw (eq-eqb y.0 k e) (omega (arith, o))
            | inr d ↦ rw (eqb_other y.0 k d) (omega (arith, once k))
          ])
          (λ k l. let d : y.0 ≢ k = λ e. (let q = small y.0 y.1 in omega (arith, q, l, e)) in rw (eqb_other y.0 k d) (omega (arith, below k l)))
          (λ k o. elim (cases_eq y.0 k) [
            | inl e ↦ subst (λ (j : ℕ). Reaches (Step g) y.0 j) e (stay y.0)
            | inr d ↦ let o2 = rw (eqb_other y.0 k d) at o in go y.0 x k y.2 (from k (omega (arith, o2)))
          ])
          (omega (arith, long))
      | inr d ↦ record { from = y.0; to = x; step = y.2; back = from y.0 (omega (arith, d)) }
    ]

pub cycle_from : (g : Graph) (n x : ℕ) (bad : ℕ → Bool) → ((x : ℕ) → bad x ≡ true → (y : ℕ) × (bad y ≡ true) × Step g y x) → ((x : ℕ) → bad x ≡ true → x < n) → bad x ≡ true → HasCycle g
cycle_from g n x bad back small b =
    walk g n bad back small (suc n) x [] b (λ k. omega arith) (λ k l. refl) (λ z o. absurd (omega (arith, o))) (omega arith)

pub cycle_left : (g work : Graph) (done : List ℕ) (e : ℕ) → IsIncidence g → Sorted g work done done [] → IsEdge work e → HasCycle g
cycle_left g work done e i s live =
    let x = some_of (ends_at work e) live in
    cycle_from g (length g.nodes) x.0.tail bad back (λ v b. node_below g v (is_node v b)) (bad_by x.0.tail (s.gone e x.0 x.1) (i.tails e x.0 (s.sub e x.0 x.1)))
  where
    some_of : (o : Option Ends) → IsSome o → (x : Ends) × (o ≡ Some x)
    some_of None h = cc
    some_of (Some x) h = (x, refl)

    bad : ℕ → Bool
    bad v = cond (nat_eq (occurs v done) 0) (is_some (lists_at g v)) false

    bad_by : (v : ℕ) → occurs v done ≡ 0 → IsNode g v → bad v ≡ true
    bad_by v o h = rw (eq-eqb (occurs v done) 0 o) h

    not_done : (v : ℕ) → bad v ≡ true → occurs v done ≡ 0
    not_done v b = elim (cases_eq (occurs v done) 0) [ inl z ↦ z | inr d ↦ let q = rw (eqb_other (occurs v done) 0 d) at b in cc ]

    is_node : (v : ℕ) → bad v ≡ true → IsNode g v
    is_node v b = let q = rw (eq-eqb (occurs v done) 0 (not_done v b)) at b in q

    back : (v : ℕ) → bad v ≡ true → (y : ℕ) × (bad y ≡ true) × Step g y v
    back v b =
        ⊎_elim
        (λ (z : 0 < occurs v done + 0). absurd (let o = not_done v b in omega (arith, z, o)))
        (λ (h : HasIn work v).
        let is = s.sub h.edge h.ends h.is in (
          h.ends.tail,
          bad_by h.ends.tail (s.gone h.edge h.ends h.is) (i.tails h.edge h.ends is),
          record { edge = h.edge; ends = is ∙ subst (λ (j : ℕ). Some h.ends ≡ Some (record { tail = h.ends.tail; head = j })) h.enters refl },
        ))
        (s.met v (is_node v b))

-- ---- where nothing is left there is an order

pub order_found : (g work : Graph) (done : List ℕ) → IsIncidence g → Sorted g work done done [] → ((e : ℕ) → IsEdge work e → ⊥) → IsTopological g done
order_found g work done i s none =
    record {
      once = λ v. by_live v (lists_at g v) refl;
      forward = λ e x h. (s.forward e x h (in_done x.head (i.heads e x h))).1;
    }
  where
    in_done : (v : ℕ) → IsNode g v → 0 < occurs v done
    in_done v h = ⊎_elim (λ (z : 0 < occurs v done + 0). omega (arith, z)) (λ (z : HasIn work v). absurd (none z.edge (ap is_some z.is))) (s.met v h)

    by_live : (v : ℕ) (o : Option Lists) → lists_at g v ≡ o → occurs v done ≡ cond (is_some (lists_at g v)) 1 0
    by_live v None is =
        rw is (elim (cases_eq (occurs v done) 0) [ inl z ↦ z | inr d ↦ let n = s.listed v (omega (arith, d)) in let q = rw is at n in cc ])
    by_live v (Some l) is = rw is (let a = in_done v (ap is_some is) in let b = s.once v in omega (arith, a, b))

further : (g : Graph) (order : List ℕ) (a b : ℕ) → IsTopological g order → Reaches (Step g) a b → place order a ≤ place order b
further g order a b t (stay _) = omega arith
further g order a c t (go _ b _ s r) =
    let f = t.forward s.edge (record { tail = a; head = b }) s.ends in
    let q = further g order b c t r in
    omega (arith, f, q)

pub ordered_has_none : (g : Graph) (order : List ℕ) → IsTopological g order → HasCycle g → ⊥
ordered_has_none g order t c =
    let f = t.forward c.step.edge (record { tail = c.from; head = c.to }) c.step.ends in
    let q = further g order c.to c.from t c.back in
    omega (arith, f, q)

-- ---- one step of taking out, whole

pub out_edge : (work w1 : Graph) (node e h : ℕ) → IsIncidence work → front (out_list work node) ≡ Some e → ((x : Ends) → ends_at work e ≡ Some x → RemovesEdge work w1 e x.tail x.head) → ((x : Ends) → ends_at work e ≡ Some x → h ≡ x.head) → IsEdge work e × IsNode work h × ((v : ℕ) → IsNode w1 v ↔ IsNode work v) × (length (out_list w1 node) < length (out_list work node))
out_edge work w1 node e h i is removes head =
    let x = first_out_ends work node e i is in
    let r = removes x.0 x.1 in
    let there = front_occurs (out_list work node) e is in
    let l = length-without e (out_list work node) there in
    let less : length (out_list w1 x.0.tail) < length (out_list work x.0.tail) = rw r.at_tail (subst (λ (j : ℕ). length (without e (out_list work j)) < length (out_list work j)) (sym x.2) (omega (arith, l))) in (
      ap is_some x.1,
      subst (λ (j : ℕ). IsNode work j) (sym (head x.0 x.1)) (i.heads e x.0 x.1),
      r.same_nodes,
      subst (λ (j : ℕ). length (out_list w1 j) < length (out_list work j)) x.2 less,
    )

pub out_keeps : (g work w1 : Graph) (early late ready : List ℕ) (node e h : ℕ) → IsIncidence work → front (out_list work node) ≡ Some e → ((x : Ends) → ends_at work e ≡ Some x → RemovesEdge work w1 e x.tail x.head) → ((x : Ends) → ends_at work e ≡ Some x → h ≡ x.head) → 0 < occurs node late → Sorted g work early late ready → HasIn w1 h → Sorted g w1 early late ready
out_keeps g work w1 early late ready node e h i is removes head there s enters =
    let x = first_out_ends work node e i is in
    sorted_keep g work w1 early late ready node e x.0 s x.1 x.2 (removes x.0 x.1) there (subst (λ (j : ℕ). HasIn w1 j) (head x.0 x.1) enters)

pub out_pushes : (g work w1 : Graph) (early late ready : List ℕ) (node e h : ℕ) → IsIncidence work → front (out_list work node) ≡ Some e → ((x : Ends) → ends_at work e ≡ Some x → RemovesEdge work w1 e x.tail x.head) → ((x : Ends) → ends_at work e ≡ Some x → h ≡ x.head) → 0 < occurs node late → Sorted g work early late ready → IsIncidence w1 → front (in_list w1 h) ≡ None → Sorted g w1 early late (ready ++ h ∷ [])
out_pushes g work w1 early late ready node e h i is removes head there s i1 none =
    let x = first_out_ends work node e i is in
    subst (λ (j : ℕ). Sorted g w1 early late (ready ++ j ∷ [])) (sym (head x.0 x.1))
    (sorted_push g work w1 early late ready node e x.0 s x.1 x.2 (removes x.0 x.1) there (i.heads e x.0 x.1)
    (λ k y q. none_in w1 x.0.head k y i1 (subst (λ (j : ℕ). front (in_list w1 j) ≡ None) (head x.0 x.1) none) q))

some_front : (o : Option ℕ) → IsSome o → (e : ℕ) × (o ≡ Some e)
some_front None h = cc
some_front (Some e) h = (e, refl)

pub has_in : (g : Graph) (v : ℕ) → IsIncidence g → IsSome (front (in_list g v)) → HasIn g v
has_in g v i h =
    let e = some_front (front (in_list g v)) h in
    let x = first_in_ends g v e.0 i e.1 in
    record { edge = e.0; ends = x.0; is = x.1; enters = x.2 }

pub first_live : (g : Graph) (v e : ℕ) → IsIncidence g → front (out_list g v) ≡ Some e → IsEdge g e
first_live g v e i h = let x = first_out_ends g v e i h in ap is_some x.1

-- ---- the sources at the start

pub record SourcesTo (g : Graph) (ready : List ℕ) (at : ℕ) : Type 0 where
  pub once : (v : ℕ) → occurs v ready ≤ 1
  pub listed : (v : ℕ) → 0 < occurs v ready → IsNode g v × (v < at) × (in_list g v ≡ [])
  pub met : (v : ℕ) → v < at → IsNode g v → (0 < occurs v ready) ⊎ (in_list g v ≢ [])

pub sources_none : (g : Graph) → SourcesTo g [] 0
sources_none g = record { once = λ v. omega arith; listed = λ v h. absurd (omega (arith, h)); met = λ v l h. absurd (omega (arith, l)) }

pub sources_more : (g : Graph) (ready : List ℕ) (at : ℕ) → SourcesTo g ready at → IsNode g at → in_list g at ≡ [] → SourcesTo g (ready ++ at ∷ []) (at + 1)
sources_more g ready at s live none =
    let a : (v : ℕ) → occurs v (ready ++ at ∷ []) ≡ occurs v ready + occurs v (at ∷ []) = λ v. occurs-append v ready (at ∷ []) in
    record {
      once = λ v. elim (cases_eq v at) [
        | inl e ↦ subst (λ (j : ℕ). occurs j (ready ++ at ∷ []) ≤ 1) (sym e) (fresh (a at))
        | inr n ↦ let z = occurs_none v at (λ i. n (sym i)) in omega (arith, s.once v, a v, z)
      ];
      listed = λ v h. elim (cases_eq v at) [
        | inl e ↦ (subst (λ (j : ℕ). IsNode g j) (sym e) live, omega (arith, e), subst (λ (j : ℕ). in_list g j ≡ []) (sym e) none)
        | inr n ↦ let z = occurs_none v at (λ i. n (sym i)) in let q = s.listed v (omega (arith, h, a v, z)) in (q.0, omega (arith, q.1), q.2)
      ];
      met = λ v l h. elim (cases_eq v at) [
        | inl e ↦ inl (subst (λ (j : ℕ). 0 < occurs j (ready ++ at ∷ [])) (sym e) (omega (arith, a at, occurs_one at)))
        | inr n ↦ ⊎_elim (λ (z : 0 < occurs v ready). inl (omega (arith, z, a v))) (λ (z : in_list g v ≢ []). inr z) (s.met v (omega (arith, l, n)) h)
      ];
    }
  where
    fresh : occurs at (ready ++ at ∷ []) ≡ occurs at ready + occurs at (at ∷ []) → occurs at (ready ++ at ∷ []) ≤ 1
    fresh a =
        elim (cases_eq (occurs at ready) 0) [
          | inl z ↦ omega (arith, a, z, occurs_one at)
          | inr d ↦ let q = s.listed at (omega (arith, d)) in absurd (omega (arith, q.1))
        ]

pub sources_skip : (g : Graph) (ready : List ℕ) (at : ℕ) → SourcesTo g ready at → (IsNode g at → in_list g at ≡ [] → ⊥) → SourcesTo g ready (at + 1)
sources_skip g ready at s no_source =
    record {
      once = s.once;
      listed = λ v h. let q = s.listed v h in (q.0, omega (arith, q.1), q.2);
      met = λ v l h. elim (cases_eq v at) [
        | inl e ↦ inr (λ none. no_source (subst (λ (j : ℕ). IsNode g j) e h) (subst (λ (j : ℕ). in_list g j ≡ []) e none))
        | inr n ↦ s.met v (omega (arith, l, n)) h
      ];
    }

filled : (xs : List ℕ) → xs ≢ [] → IsSome (front xs)
filled [] h = absurd (h refl)
filled (x ∷ xs) h = refl

pub sources_sorted : (g work : Graph) (ready : List ℕ) (bound : ℕ) → SourcesTo g ready bound → IsIncidence g → ((v : ℕ) → IsNode g v → v < bound) → IsSame g work → Sorted g work [] [] ready
sources_sorted g work ready bound s i all same =
    record {
      sub = λ e x h. sym (same.same_edges e) ∙ h;
      kept = λ e x h o. same.same_edges e ∙ h;
      gone = λ e x h. refl;
      same_nodes = λ v. (λ h. ap is_some (sym (same.same_nodes v)) ∙ h, λ h. ap is_some (same.same_nodes v) ∙ h);
      once = λ v. omega (arith, s.once v);
      listed = λ v h. (s.listed v (omega (arith, h))).0;
      met = λ v h. ⊎_elim (λ (z : 0 < occurs v ready). inl (omega (arith, z)))
          (λ (z : in_list g v ≢ []). let q = has_in g v i (filled (in_list g v) z) in inr (record { edge = q.edge; ends = q.ends; is = same.same_edges q.edge ∙ q.is; enters = q.enters })) (s.met v (all v h) h);
      clean = λ e x h. elim (cases_eq (occurs x.head ready) 0) [
        | inl z ↦ omega (arith, z)
        | inr d ↦
            let q = s.listed x.head (omega (arith, d)) in
            let n = none_in g x.head e x i (ap front q.2) (sym (same.same_edges e) ∙ h) in
            absurd (n refl)
      ];
      forward = λ e x h o. absurd (omega (arith, o));
    }

-- ---- the next source

pub taken_next : (g work w1 : Graph) (done done1 ready ready1 after : List ℕ) (n : ℕ) → Sorted g work done done ready → ready ≡ ready1 ++ n ∷ [] → done1 ≡ done ++ n ∷ [] → ((g : Graph) (early late : List ℕ) → 0 < occurs n late → ((v : ℕ) → v ≢ n → occurs v late ≡ occurs v early) → Sorted g work early late ready1 → Sorted g w1 late late after) → Sorted g w1 done1 done1 after × (length done1 ≤ length g.nodes)
taken_next g work w1 done done1 ready ready1 after n s is was take =
    let m : Sorted g work done done1 ready1 = subst (λ (l : List ℕ). Sorted g work done l ready1) (sym was) (sorted_move g work done ready1 n (subst (λ (l : List ℕ). Sorted g work done done l) is s)) in
    let a : (v : ℕ) → occurs v done1 ≡ occurs v done + occurs v (n ∷ []) = λ v. ap (λ (l : List ℕ). occurs v l) was ∙ occurs-append v done (n ∷ []) in (
      take g done done1 (omega (arith, a n, occurs_one n)) (λ v d. let z = occurs_none v n (λ i. d (sym i)) in omega (arith, a v, z)) m,
      few_done g work done done1 ready1 m,
    )

pub next_is_node : (g work : Graph) (done ready ready1 : List ℕ) (n : ℕ) → Sorted g work done done ready → ready ≡ ready1 ++ n ∷ [] → IsNode work n
next_is_node g work done ready ready1 n s is =
    let a = occurs-append n ready1 (n ∷ []) in
    let b : occurs n ready ≡ occurs n (ready1 ++ n ∷ []) = ap (λ (l : List ℕ). occurs n l) is in
    (s.same_nodes n).1 (s.listed n (omega (arith, a, b, occurs_one n)))
