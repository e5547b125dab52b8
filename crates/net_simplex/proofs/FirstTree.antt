-- The first tree: each step joins one node, and in the end all are joined.
use Rattle.std.proofs.Common.{◌≡◌, ◌≢◌, ℕ, zero, suc, ◌+◌, ◌-◌, ◌<◌, ◌≤◌, ◌^◌, cond, not, Bool, true, false, ◌⊎◌, ℤ, pos, ◌+ℤ◌, ◌-ℤ◌, ◌≤ℤ◌, List, length, set, replicate, Option, Some, None, arith, refl, sym, ap, subst, ◌∙◌, inl, inr}
use Rattle.std.proofs.lemmas.Int.{ints}
use Rattle.std.proofs.lemmas.Bool.{cases_eq, cases_lt, cases_Bool}
use Rattle.std.proofs.lemmas.List.{get_or-set_same, get_or-set_other, get_or-replicate, get_or_past, length-set, length-replicate, ext_get_or}
use Rattle.network_laws.specs.declared.network.NetEdge.{NetEdge}
use Rattle.network_laws.specs.Network.{edge_at, IsNetwork, Joined}
use Rattle.network_laws.specs.Layering.{layer_of, IsLayering}
use Rattle.network_laws.specs.Linked.{is_marked, Linked}
use Rattle.network_laws.specs.Paths.{AreGreatestSums, marked_sum}
use Rattle.network_laws.proofs.Linking.{link_stay}
use Rattle.network_laws.proofs.PathSums.{marked_le, marked_more, least_le}
use Rattle.flow_dual.specs.Rounds.{all_least}
use Rattle.flow_dual.proofs.Starting.{first_low}
use Rattle.net_simplex.specs.declared.choice.Choice.{Choice}
use Rattle.net_simplex.specs.Tree.{IsState}
use Rattle.net_simplex.specs.Pivots.{Growing, slack, shifted, is_in, borders, move_to, grown_by, grown_once, grown, seed, state_of, first_state, least_slack_edge}
use Rattle.net_simplex.specs.Answer.{IsGrowing}
use Rattle.net_simplex.specs.Rooted.{beyond, IsPlanted}
use Rattle.net_simplex.specs.Chosen.{Tells}
use Rattle.net_simplex.specs.Grown.{IsConnected, growing_of, IsGrown, IsSmall, Joins, Attaches, ReachesOneMore}
use Rattle.net_simplex.specs.Kept.{kept_state, IsKept, StandsFor}
use Rattle.net_simplex.proofs.Choosing.{Chosen, least_chosen}
use Rattle.net_simplex.proofs.Exchanging.{cut_no_cycle}
use Rattle.net_simplex.proofs.Pivoting.{length_shifted, shifted_at, slack_is}
use Rattle.net_simplex.proofs.TreeGrowth.{growth_keeps}
use Rattle.net_simplex.proofs.Hanging.{from_tail, from_head}
use Rattle.net_simplex.proofs.Planting.{holding_room, holding_all, planted_root, planted_more, all_planted, root_held}
use Rattle.net_simplex.proofs.Walking.{clash}

-- what a choice tells
pub tells_some : (size : ℕ → ℕ) (o : Option ℕ) (c : Choice) → Tells size o (Some c) → o ≡ Some c.edge
tells_some size None c t = absurd t
tells_some size (Some k) c t = ap Some (sym t.0)

pub tells_none : (size : ℕ → ℕ) (o : Option ℕ) → Tells size o None → o ≡ None
tells_none size None t = refl
tells_none size (Some k) t = absurd t

-- a node that is joined to a held one and isn't held itself: an edge leads out between
border_on : (edges : List NetEdge) (reached : List Bool) (n v : ℕ) → Joined edges 0 v n → is_in reached 0 ≡ true → is_in reached v ≡ false → (k : ℕ) × (k < length edges) × (borders reached (edge_at edges k) ≡ true)
border_on edges reached zero v j r f = clash (is_in reached 0) r (ap (is_in reached) j ∙ f)
border_on edges reached (suc n) v j r f =
    elim (cases_Bool (is_in reached j.0)) [
      | inr out ↦ border_on edges reached n j.0 j.1 r out
      | inl held ↦ elim j.2 [
        | inl h ↦ (h.number, h.is_there, out_of h.number (ap (is_in reached) h.from_is ∙ held) (ap (is_in reached) h.to_is ∙ f))
        | inr h ↦ (h.number, h.is_there, in_to h.number (ap (is_in reached) h.from_is ∙ f) (ap (is_in reached) h.to_is ∙ held))
      ]
    ]
  where
    out_of : (k : ℕ) → is_in reached (edge_at edges k).tail ≡ true → is_in reached (edge_at edges k).head ≡ false → borders reached (edge_at edges k) ≡ true
    out_of k a b = rw (a, b) refl

    in_to : (k : ℕ) → is_in reached (edge_at edges k).tail ≡ false → is_in reached (edge_at edges k).head ≡ true → borders reached (edge_at edges k) ≡ true
    in_to k a b = rw (a, b) refl

some_out : (test : ℕ → Bool) (n : ℕ) → ((v : ℕ) × (v < n) × (test v ≡ false)) ⊎ ((v : ℕ) → v < n → test v ≡ true)
some_out test zero = inr (λ v l. absurd (omega (arith, l)))
some_out test (suc n) =
    elim (cases_Bool (test n)) [
      | inr f ↦ inl (n, omega arith, f)
      | inl t ↦ elim (some_out test n) [
        | inl w ↦ inl (w.0, omega (arith, w.1), w.2)
        | inr all ↦ inr (λ v l. elim (cases_eq v n) [
          | inl e ↦ ap test e ∙ t
          | inr ne ↦ all v (omega (arith, l, ne))
        ])
      ]
    ]

small_within : (z : ℤ) (n : ℕ) → pos 0 ≤ℤ (z +ℤ pos n) → z ≤ℤ pos n → n < 2 ^ 62 → IsSmall z
small_within z n a b c = record { from = omega (arith, ints, a, c); to = omega (arith, ints, b, c) }

module _ (nodes : ℕ) (edges : List NetEdge) (net : IsNetwork nodes edges) where
  -- the seed
  module _ (some : 0 < nodes) (start : List ℤ) (g : AreGreatestSums nodes edges start) (up : IsLayering edges start) (order place parent : List ℕ) (lo : length order ≡ nodes) (lp : length place ≡ nodes) (la : length parent ≡ nodes) where
    abbrev none : List Bool
    none = replicate (length edges) false

    abbrev one : List Bool
    one = set (replicate nodes false) 0 true

    abbrev high : ℤ
    high = layer_of start 0

    abbrev layers : List ℤ
    layers = set start 0 (pos 0)

    in_root : is_in one 0 ≡ true
    in_root = get_or-set_same (replicate nodes false) 0 true false (let n = length-replicate nodes false in omega (arith, n, some))

    out_other : (v : ℕ) → v < nodes → v ≢ 0 → is_in one v ≡ false
    out_other v l ne = get_or-set_other (replicate nodes false) 0 v true false ne ∙ get_or-replicate nodes v false false l

    is_root : (v : ℕ) → v < nodes → is_in one v ≡ true → v ≡ 0
    is_root v l m = elim (cases_eq v 0) [
      | inl e ↦ e
      | inr ne ↦ clash (is_in one v) m (out_other v l ne)
    ]

    long : length layers ≡ nodes
    long = length-set start 0 (pos 0) ∙ g.layer_for_each

    pub real_start : shifted (is_in one) high layers ≡ start
    real_start =
        let n = length_shifted (is_in one) high layers in
        let m = length-set start 0 (pos 0) in
        ext_get_or (pos 0) (shifted (is_in one) high layers) start (n ∙ m) (λ v l.
        let lv : v < nodes = let q = long in omega (arith, n, l, q) in
        let s = shifted_at (is_in one) high layers v (let q = long in omega (arith, lv, q)) in
        elim (cases_eq v 0) [
          | inl e ↦
              let a = ap (λ b. cond b (layer_of layers v +ℤ high) (layer_of layers v)) (ap (is_in one) e ∙ in_root) in
              let b = ap (layer_of layers) e ∙ get_or-set_same start 0 (pos 0) (pos 0) (let q = g.layer_for_each in omega (arith, q, some)) in
              let c = ap (layer_of start) e in
              omega (arith, ints, s, a, b, c)
          | inr ne ↦
              let a = ap (λ b. cond b (layer_of layers v +ℤ high) (layer_of layers v)) (out_other v lv ne) in
              let b = get_or-set_other start 0 v (pos 0) (pos 0) ne in
              s ∙ (a ∙ b)
        ])

    unmarked : (k : ℕ) → is_marked none k ≡ true → ⊥
    unmarked k m = clash (is_marked none k) m (elim (cases_lt k (length edges)) [
      | inl l ↦ get_or-replicate (length edges) k false false l
      | inr l ↦ get_or_past none k false (let n = length-replicate (length edges) false in omega (arith, n, l))
    ])

    seed_growing : IsGrowing nodes edges (seed nodes edges start)
    seed_growing = record {
      layer_for_each = g.layer_for_each;
      mark_for_each = length-replicate (length edges) false;
      reach_for_each = length-set (replicate nodes false) 0 true ∙ length-replicate nodes false;
      layering = up;
      tight = λ k l m. absurd (unmarked k m);
      ends_in = λ k l m. absurd (unmarked k m);
      spans = λ v m. elim (cases_lt v nodes) [
        | inl l ↦ subst (λ x. Linked edges none 0 x) (sym (is_root v l m)) (link_stay edges none 0)
        | inr l ↦ clash (is_in one v) m (get_or_past one v false (let n = length-set (replicate nodes false) 0 true in let q = length-replicate nodes false in omega (arith, n, q, l)))
      ];
      cuts = λ k l m. absurd (unmarked k m);
    }

    pub start_is : growing_of none one high layers ≡ seed nodes edges start
    start_is = ap (λ ls. record { tree = none; reached = one; layers = ls }) real_start

    pub start_grown : IsGrown nodes edges 1 none one high layers (set order 0 0) (set place 0 0) (set parent 0 (length edges))
    start_grown = record {
      layer_each = long;
      growing = subst (λ x. IsGrowing nodes edges x) (sym start_is) seed_growing;
      planted = planted_root nodes edges none (is_in one) order place (set parent 0 (length edges)) some lo lp (length-set parent 0 (length edges) ∙ la) (get_or-set_same parent 0 (length edges) 0 (omega (arith, la, some))) in_root out_other;
      root = get_or-set_same start 0 (pos 0) (pos 0) (let q = g.layer_for_each in omega (arith, q, some));
      inside_from = λ v l m. let e = ap (layer_of layers) (is_root v l m) ∙ get_or-set_same start 0 (pos 0) (pos 0) (let q = g.layer_for_each in omega (arith, q, some)) in omega (arith, ints, e);
      inside_to = λ v l m. let e = ap (layer_of layers) (is_root v l m) ∙ get_or-set_same start 0 (pos 0) (pos 0) (let q = g.layer_for_each in omega (arith, q, some)) in omega (arith, ints, e);
      outside_from = λ v l m. let e = stays v m in let b = (first_low nodes edges start net.acyclic g v l).0 in omega (arith, ints, e, b);
      outside_to = λ v l m. let e = stays v m in let b = (first_low nodes edges start net.acyclic g v l).1 in omega (arith, ints, e, b);
    }
      where
        stays : (v : ℕ) → is_in one v ≡ false → layer_of layers v ≡ layer_of start v
        stays v m = get_or-set_other start 0 v (pos 0) (pos 0) (λ e. clash (is_in one 0) in_root (subst (λ x. is_in one x ≡ false) e m))

  -- one step
  module _ (connected : IsConnected nodes edges) (count : ℕ) (tree reached : List Bool) (by : ℤ) (layers : List ℤ) (order place parent : List ℕ) (s : IsGrown nodes edges count tree reached by layers order place parent) (free : count < nodes) where
    abbrev real : List ℤ
    real = shifted (is_in reached) by layers

    real_in : (v : ℕ) → v < nodes → is_in reached v ≡ true → layer_of real v ≡ layer_of layers v +ℤ by
    real_in v l m = shifted_at (is_in reached) by layers v (let n = s.layer_each in omega (arith, n, l)) ∙ ap (λ b. cond b (layer_of layers v +ℤ by) (layer_of layers v)) m

    real_out : (v : ℕ) → v < nodes → is_in reached v ≡ false → layer_of real v ≡ layer_of layers v
    real_out v l m = shifted_at (is_in reached) by layers v (let n = s.layer_each in omega (arith, n, l)) ∙ ap (λ b. cond b (layer_of layers v +ℤ by) (layer_of layers v)) m

    pub each_small : (v : ℕ) → v < nodes → IsSmall (layer_of layers v)
    each_small v l =
        let m = marked_le edges tree in
        let f = net.least_fits in
        elim (cases_Bool (is_in reached v)) [
          | inl a ↦ let x = s.inside_from v l a in let y = s.inside_to v l a in small_within (layer_of layers v) (marked_sum edges tree) x y (omega (arith, m, f))
          | inr a ↦ let x = s.outside_from v l a in let y = s.outside_to v l a in small_within (layer_of layers v) (all_least edges) (omega (arith, ints, x)) y f
        ]

    pub none_left : least_slack_edge edges real (borders reached) ≡ None → ⊥
    none_left none =
        elim (some_out (is_in reached) nodes) [
          | inl w ↦
              let j = connected w.0 w.1 in
              let b = border_on edges reached j.0 w.0 j.1 (root_held nodes edges tree (is_in reached) count order place parent s.planted net.ends) w.2 in
              let c = subst (λ o. Chosen (λ k. borders reached (edge_at edges k)) (λ k. slack real (edge_at edges k)) (length edges) o) none (least_chosen (λ k. borders reached (edge_at edges k)) (λ k. slack real (edge_at edges k)) (length edges)) in
              clash (borders reached (edge_at edges b.0)) b.2 (c b.0 b.1)
          | inr all ↦ let a = s.planted.counted in let h = holding_all (is_in reached) nodes all in absurd (omega (arith, a, h, free))
        ]

    module _ (k : ℕ) (is : least_slack_edge edges real (borders reached) ≡ Some k) where
      abbrev e : NetEdge
      e = edge_at edges k

      chosen : Chosen (λ i. borders reached (edge_at edges i)) (λ i. slack real (edge_at edges i)) (length edges) (Some k)
      chosen = subst (λ o. Chosen (λ i. borders reached (edge_at edges i)) (λ i. slack real (edge_at edges i)) (length edges) o) is (least_chosen (λ i. borders reached (edge_at edges i)) (λ i. slack real (edge_at edges i)) (length edges))

      pub edge_there : k < length edges
      edge_there = chosen.0

      lt : e.tail < nodes
      lt = (net.ends k edge_there).0

      lh : e.head < nodes
      lh = (net.ends k edge_there).1

      pub head_out : is_in reached e.tail ≡ true → is_in reached e.head ≡ false
      head_out a = not_true (is_in reached e.head) (sym (ap (λ x. cond x (not (is_in reached e.head)) (is_in reached e.head)) a) ∙ chosen.1)
        where
          not_true : (b : Bool) → not b ≡ true → b ≡ false
          not_true true h = absurd cc
          not_true false h = refl

      pub head_in : is_in reached e.tail ≡ false → is_in reached e.head ≡ true
      head_in a = sym (ap (λ x. cond x (not (is_in reached e.head)) (is_in reached e.head)) a) ∙ chosen.1

      gap : layer_of real e.tail +ℤ pos e.least +ℤ pos (slack real e) ≡ layer_of real e.head
      gap = slack_is real e (s.growing.layering k edge_there)

      pub least_small : e.least < 2 ^ 62
      least_small = let a = least_le edges k edge_there in let f = net.least_fits in omega (arith, a, f)

      fresh_if : (w : ℕ) → ((e.tail ≡ w) ⊎ (e.head ≡ w)) → is_in reached w ≡ false → is_marked tree k ≡ false
      fresh_if w at out =
          elim (cases_Bool (is_marked tree k)) [
            | inl m ↦
                let b = s.growing.ends_in k edge_there m in
                elim at [
                  | inl t ↦ clash (is_in reached w) (subst (λ x. is_in reached x ≡ true) t b.0) out
                  | inr t ↦ clash (is_in reached w) (subst (λ x. is_in reached x ≡ true) t b.1) out
                ]
            | inr m ↦ m
          ]

      -- the new node w, at the place where its edge to the old node u is tight
      module _ (u w : ℕ) (at : ℤ) (lu : u < nodes) (lw : w < nodes) (held : is_in reached u ≡ true) (out : is_in reached w ≡ false) (ends : (e.tail ≡ w) ⊎ (e.head ≡ w)) (other : beyond e w ≡ u) (near : (at ≤ℤ (layer_of layers u +ℤ pos e.least)) × (layer_of layers u ≤ℤ (at +ℤ pos e.least))) (moves : (by +ℤ move_to reached real e) ≡ layer_of layers w -ℤ at) (reached' : List Bool) (reach_is : (v : ℕ) → v < nodes → v ≢ w → is_in reached' v ≡ is_in reached v) (reach_new : is_in reached' w ≡ true) where
        abbrev by' : ℤ
        by' = layer_of layers w -ℤ at

        abbrev layers' : List ℤ
        layers' = set layers w at

        abbrev tree' : List Bool
        tree' = set tree k true

        fresh : is_marked tree k ≡ false
        fresh = fresh_if w ends out

        total : marked_sum edges tree' ≡ marked_sum edges tree + e.least
        total = marked_more edges tree k edge_there s.growing.mark_for_each fresh

        at_new : layer_of layers' w ≡ at
        at_new = get_or-set_same layers w at (pos 0) (let n = s.layer_each in omega (arith, n, lw))

        at_old : (v : ℕ) → v ≢ w → layer_of layers' v ≡ layer_of layers v
        at_old v ne = get_or-set_other layers w v at (pos 0) ne

        pub at_small : IsSmall at
        at_small =
            let t = total in
            let m = marked_le edges tree' in
            let f = net.least_fits in
            let x = s.inside_from u lu held in
            let y = s.inside_to u lu held in
            let n = near.0 in
            let q = near.1 in
            small_within at (marked_sum edges tree') (omega (arith, ints, t, x, q)) (omega (arith, ints, t, y, n)) (omega (arith, m, f))

        same_layers : shifted (is_in reached) (move_to reached real e) real ≡ shifted (is_in reached') by' layers'
        same_layers =
            let z = move_to reached real e in
            let a = length_shifted (is_in reached) z real in
            let b = length_shifted (is_in reached) by layers in
            let c = length_shifted (is_in reached') by' layers' in
            let d = length-set layers w at in
            let n = s.layer_each in
            ext_get_or (pos 0) (shifted (is_in reached) z real) (shifted (is_in reached') by' layers') (omega (arith, a, b, c, d)) (λ v l.
            let lv : v < nodes = omega (arith, l, a, b, n) in
            let p = shifted_at (is_in reached) z real v (omega (arith, lv, b, n)) in
            let q = shifted_at (is_in reached') by' layers' v (omega (arith, lv, d, n)) in
            elim (cases_eq v w) [
              | inl same ↦
                  let o = ap (is_in reached) same ∙ out in
                  let i = ap (is_in reached') same ∙ reach_new in
                  let x = ap (λ b. cond b (layer_of real v +ℤ z) (layer_of real v)) o in
                  let y = ap (λ b. cond b (layer_of layers' v +ℤ by') (layer_of layers' v)) i in
                  let r = real_out v lv o in
                  let t = ap (layer_of layers') same ∙ at_new in
                  let f = ap (layer_of layers) same in
                  omega (arith, ints, p, q, x, y, r, t, f)
              | inr ne ↦
                  let old = at_old v ne in
                  elim (cases_Bool (is_in reached v)) [
                    | inl i ↦
                        let j = reach_is v lv ne ∙ i in
                        let x = ap (λ b. cond b (layer_of real v +ℤ z) (layer_of real v)) i in
                        let y = ap (λ b. cond b (layer_of layers' v +ℤ by') (layer_of layers' v)) j in
                        let r = real_in v lv i in
                        omega (arith, ints, p, q, x, y, r, old, moves)
                    | inr i ↦
                        let j = reach_is v lv ne ∙ i in
                        let x = ap (λ b. cond b (layer_of real v +ℤ z) (layer_of real v)) i in
                        let y = ap (λ b. cond b (layer_of layers' v +ℤ by') (layer_of layers' v)) j in
                        let r = real_out v lv i in
                        omega (arith, ints, p, q, x, y, r, old)
                  ]
            ])

        still : (i : ℕ) → i < length edges → is_marked tree i ≡ true → is_marked tree' i ≡ true
        still i l m = elim (cases_eq i k) [
          | inl same ↦ clash (is_marked tree k) (subst (λ x. is_marked tree x ≡ true) same m) fresh
          | inr ne ↦ get_or-set_other tree k i true false ne ∙ m
        ]

        new_planted : IsPlanted nodes edges tree' (is_in reached') (count + 1) (set order count w) (set place w count) (set parent w k)
        new_planted =
            planted_more nodes edges tree (is_in reached) count order place parent s.planted net.ends tree' still (is_in reached') w k lw out reach_new reach_is (set parent w k) (length-set parent w k ∙ s.planted.parent_each)
            (λ v l m. get_or-set_other parent w v k 0 (λ same. clash (is_in reached w) (subst (λ x. is_in reached x ≡ true) same m) out))
            (get_or-set_same parent w k 0 (let n = s.planted.parent_each in omega (arith, n, lw))) edge_there
            (get_or-set_same tree k true false (let n = s.growing.mark_for_each in let l = edge_there in omega (arith, n, l))) ends (ap (is_in reached) other ∙ held)

        module _ (reached_is : reached' ≡ set (set reached e.tail true) e.head true) where
          pub once_is : growing_of tree' reached' by' layers' ≡ grown_once edges (growing_of tree reached by layers)
          once_is =
              let a = ap (λ o. grown_by edges (growing_of tree reached by layers) o) is in
              let b : grown_by edges (growing_of tree reached by layers) (Some k) ≡ growing_of tree' reached' by' layers' =
              ap (λ ls. record { tree = tree'; reached = set (set reached e.tail true) e.head true; layers = ls }) same_layers
              ∙ ap (λ r. record { tree = tree'; reached = r; layers = shifted (is_in reached') by' layers' }) (sym reached_is)
              in
              sym (a ∙ b)

          pub grows_on : IsGrown nodes edges (count + 1) tree' reached' by' layers' (set order count w) (set place w count) (set parent w k)
          grows_on = record {
            layer_each = length-set layers w at ∙ s.layer_each;
            growing = subst (λ x. IsGrowing nodes edges x) (sym once_is) (growth_keeps nodes edges (growing_of tree reached by layers) net.ends s.growing);
            planted = new_planted;
            root = at_old 0 (λ same. clash (is_in reached w) (subst (λ x. is_in reached x ≡ true) same (root_held nodes edges tree (is_in reached) count order place parent s.planted net.ends)) out) ∙ s.root;
            inside_from = λ v l m. let t = total in elim (cases_eq v w) [
              | inl same ↦
                  let a = ap (layer_of layers') same ∙ at_new in
                  let x = s.inside_from u lu held in
                  let q = near.1 in
                  omega (arith, ints, t, a, x, q)
              | inr ne ↦ let a = at_old v ne in let x = s.inside_from v l (sym (reach_is v l ne) ∙ m) in omega (arith, ints, t, a, x)
            ];
            inside_to = λ v l m. let t = total in elim (cases_eq v w) [
              | inl same ↦
                  let a = ap (layer_of layers') same ∙ at_new in
                  let x = s.inside_to u lu held in
                  let q = near.0 in
                  omega (arith, ints, t, a, x, q)
              | inr ne ↦ let a = at_old v ne in let x = s.inside_to v l (sym (reach_is v l ne) ∙ m) in omega (arith, ints, t, a, x)
            ];
            outside_from = λ v l m. let ne = no_new v m in let a = at_old v ne in let x = s.outside_from v l (sym (reach_is v l ne) ∙ m) in omega (arith, ints, a, x);
            outside_to = λ v l m. let ne = no_new v m in let a = at_old v ne in let x = s.outside_to v l (sym (reach_is v l ne) ∙ m) in omega (arith, ints, a, x);
          }
            where
              no_new : (v : ℕ) → is_in reached' v ≡ false → v ≢ w
              no_new v m same = clash (is_in reached' w) reach_new (subst (λ x. is_in reached' x ≡ false) same m)

      pub tail_move : is_in reached e.tail ≡ true → (by +ℤ move_to reached real e) ≡ layer_of layers e.head -ℤ (layer_of layers e.tail +ℤ pos e.least)
      tail_move a =
          let m = ap (λ b. cond b (pos (slack real e)) (pos 0 -ℤ pos (slack real e))) a in
          let t = real_in e.tail lt a in
          let h = real_out e.head lh (head_out a) in
          let g = gap in
          omega (arith, ints, m, t, h, g)

      pub head_move : is_in reached e.tail ≡ false → (by +ℤ move_to reached real e) ≡ layer_of layers e.tail -ℤ (layer_of layers e.head -ℤ pos e.least)
      head_move a =
          let m = ap (λ b. cond b (pos (slack real e)) (pos 0 -ℤ pos (slack real e))) a in
          let t = real_out e.tail lt a in
          let h = real_in e.head lh (head_in a) in
          let g = gap in
          omega (arith, ints, m, t, h, g)

      abbrev marked : List Bool
      marked = set (set reached e.tail true) e.head true

      mark_long : length reached ≡ nodes
      mark_long = s.growing.reach_for_each

      mark_head : is_in marked e.head ≡ true
      mark_head = get_or-set_same (set reached e.tail true) e.head true false (let n = mark_long in let m = length-set reached e.tail true in let l = lh in omega (arith, n, m, l))

      mark_tail : e.tail ≢ e.head → is_in marked e.tail ≡ true
      mark_tail ne = get_or-set_other (set reached e.tail true) e.head e.tail true false ne ∙ get_or-set_same reached e.tail true false (let n = mark_long in let l = lt in omega (arith, n, l))

      mark_other : (v : ℕ) → v ≢ e.tail → v ≢ e.head → is_in marked v ≡ is_in reached v
      mark_other v nt nh = get_or-set_other (set reached e.tail true) e.head v true false nh ∙ get_or-set_other reached e.tail v true false nt

      pub two_ends : e.tail ≢ e.head
      two_ends same = elim (cases_Bool (is_in reached e.tail)) [
        | inl a ↦ clash (is_in reached e.head) (subst (λ x. is_in reached x ≡ true) same a) (head_out a)
        | inr a ↦ clash (is_in reached e.head) (head_in a) (subst (λ x. is_in reached x ≡ false) same a)
      ]

      -- the tail is held
      module _ (a : is_in reached e.tail ≡ true) where
        reach_tail : (v : ℕ) → v < nodes → v ≢ e.head → is_in marked v ≡ is_in reached v
        reach_tail v l nh = elim (cases_eq v e.tail) [
          | inl same ↦ ap (is_in marked) same ∙ (mark_tail two_ends ∙ sym (ap (is_in reached) same ∙ a))
          | inr nt ↦ mark_other v nt nh
        ]

        near_tail : ((layer_of layers e.tail +ℤ pos e.least) ≤ℤ (layer_of layers e.tail +ℤ pos e.least)) × (layer_of layers e.tail ≤ℤ (layer_of layers e.tail +ℤ pos e.least +ℤ pos e.least))
        near_tail = (omega (arith, ints), omega (arith, ints))

        pub small_tail : IsSmall (layer_of layers e.tail +ℤ pos e.least)
        small_tail = at_small e.tail e.head (layer_of layers e.tail +ℤ pos e.least) lt lh a (head_out a) (inr refl) (from_head e e.head two_ends) near_tail (tail_move a) marked reach_tail mark_head

        pub grown_tail : IsGrown nodes edges (count + 1) (set tree k true) marked (layer_of layers e.head -ℤ (layer_of layers e.tail +ℤ pos e.least)) (set layers e.head (layer_of layers e.tail +ℤ pos e.least)) (set order count e.head) (set place e.head count) (set parent e.head k)
        grown_tail = grows_on e.tail e.head (layer_of layers e.tail +ℤ pos e.least) lt lh a (head_out a) (inr refl) (from_head e e.head two_ends) near_tail (tail_move a) marked reach_tail mark_head refl

        pub once_tail : growing_of (set tree k true) marked (layer_of layers e.head -ℤ (layer_of layers e.tail +ℤ pos e.least)) (set layers e.head (layer_of layers e.tail +ℤ pos e.least)) ≡ grown_once edges (growing_of tree reached by layers)
        once_tail = once_is e.tail e.head (layer_of layers e.tail +ℤ pos e.least) lt lh a (head_out a) (inr refl) (from_head e e.head two_ends) near_tail (tail_move a) marked reach_tail mark_head refl

      -- the head is held
      module _ (a : is_in reached e.tail ≡ false) where
        reach_head : (v : ℕ) → v < nodes → v ≢ e.tail → is_in marked v ≡ is_in reached v
        reach_head v l nt = elim (cases_eq v e.head) [
          | inl same ↦ ap (is_in marked) same ∙ (mark_head ∙ sym (ap (is_in reached) same ∙ head_in a))
          | inr nh ↦ mark_other v nt nh
        ]

        near_head : ((layer_of layers e.head -ℤ pos e.least) ≤ℤ (layer_of layers e.head +ℤ pos e.least)) × (layer_of layers e.head ≤ℤ ((layer_of layers e.head -ℤ pos e.least) +ℤ pos e.least))
        near_head = (omega (arith, ints), omega (arith, ints))

        pub small_head : IsSmall (layer_of layers e.head -ℤ pos e.least)
        small_head = at_small e.head e.tail (layer_of layers e.head -ℤ pos e.least) lh lt (head_in a) a (inl refl) (from_tail e e.tail refl) near_head (head_move a) marked reach_head (mark_tail two_ends)

        pub grown_head : IsGrown nodes edges (count + 1) (set tree k true) marked (layer_of layers e.tail -ℤ (layer_of layers e.head -ℤ pos e.least)) (set layers e.tail (layer_of layers e.head -ℤ pos e.least)) (set order count e.tail) (set place e.tail count) (set parent e.tail k)
        grown_head = grows_on e.head e.tail (layer_of layers e.head -ℤ pos e.least) lh lt (head_in a) a (inl refl) (from_tail e e.tail refl) near_head (head_move a) marked reach_head (mark_tail two_ends) refl

        pub once_head : growing_of (set tree k true) marked (layer_of layers e.tail -ℤ (layer_of layers e.head -ℤ pos e.least)) (set layers e.tail (layer_of layers e.head -ℤ pos e.least)) ≡ grown_once edges (growing_of tree reached by layers)
        once_head = once_is e.head e.tail (layer_of layers e.head -ℤ pos e.least) lh lt (head_in a) a (inl refl) (from_tail e e.tail refl) near_head (head_move a) marked reach_head (mark_tail two_ends) refl

      module _ (tree' reached' : List Bool) (layers' : List ℤ) (order' place' parent' : List ℕ) (by' : ℤ) (t : Attaches e k count tree reached layers order place parent tree' reached' layers' order' place' parent' by') where
        abbrev Joined' : ℕ → ℤ → Type 0
        Joined' w at = Joins w k at count layers order place parent layers' order' place' parent' by'

        lists_are : (w : ℕ) (at : ℤ) → Joined' w at → IsGrown nodes edges (count + 1) (set tree k true) marked (layer_of layers w -ℤ at) (set layers w at) (set order count w) (set place w count) (set parent w k) → IsGrown nodes edges (count + 1) tree' reached' by' layers' order' place' parent'
        lists_are w at j g = rw (t.tree_is, t.reached_is, j.by_is, j.layers_are, j.order_is, j.place_is, j.parent_is) g

        once_are : (w : ℕ) (at : ℤ) → Joined' w at → growing_of (set tree k true) marked (layer_of layers w -ℤ at) (set layers w at) ≡ grown_once edges (growing_of tree reached by layers) → growing_of tree' reached' by' layers' ≡ grown_once edges (growing_of tree reached by layers)
        once_are w at j g =
            subst (λ x. growing_of x reached' by' layers' ≡ grown_once edges (growing_of tree reached by layers)) (sym t.tree_is)
            (subst (λ x. growing_of (set tree k true) x by' layers' ≡ grown_once edges (growing_of tree reached by layers)) (sym t.reached_is)
            (subst (λ x. growing_of (set tree k true) marked x layers' ≡ grown_once edges (growing_of tree reached by layers)) (sym j.by_is)
            (subst (λ x. growing_of (set tree k true) marked (layer_of layers w -ℤ at) x ≡ grown_once edges (growing_of tree reached by layers)) (sym j.layers_are) g)))

        pub attached_grown : IsGrown nodes edges (count + 1) tree' reached' by' layers' order' place' parent'
        attached_grown = elim (cases_Bool (is_in reached e.tail)) [
          | inl a ↦ lists_are e.head (layer_of layers e.tail +ℤ pos e.least) (t.from_tail a) (grown_tail a)
          | inr a ↦ lists_are e.tail (layer_of layers e.head -ℤ pos e.least) (t.from_head a) (grown_head a)
        ]

        pub attached_once : growing_of tree' reached' by' layers' ≡ grown_once edges (growing_of tree reached by layers)
        attached_once = elim (cases_Bool (is_in reached e.tail)) [
          | inl a ↦ once_are e.head (layer_of layers e.tail +ℤ pos e.least) (t.from_tail a) (once_tail a)
          | inr a ↦ once_are e.tail (layer_of layers e.head -ℤ pos e.least) (t.from_head a) (once_head a)
        ]

        joined_at : (w : ℕ) (at : ℤ) → Joined' w at → w < nodes → is_in reached w ≡ false → is_in marked w ≡ true → ((v : ℕ) → v < nodes → v ≢ w → is_in marked v ≡ is_in reached v) → ReachesOneMore nodes count reached layers order' reached' layers'
        joined_at w at j lw out held others =
            let is : ReachesOneMore nodes count reached layers (set order count w) marked (set layers w at) =
            let first = get_or-set_same order count w 0 (let n = s.planted.order_each in omega (arith, n, free)) in
            record {
              node = subst (λ x. x < nodes) (sym first) lw;
              was_out = subst (λ x. is_in reached x ≡ false) (sym first) out;
              is_held = subst (λ x. is_in marked x ≡ true) (sym first) held;
              others = λ v l ne. let nw : v ≢ w = λ e. ne (e ∙ sym first) in (others v l nw, get_or-set_other layers w v at (pos 0) nw);
            }
            in
            rw (j.order_is, t.reached_is, j.layers_are) is

        pub attached_joined : ReachesOneMore nodes count reached layers order' reached' layers'
        attached_joined = elim (cases_Bool (is_in reached e.tail)) [
          | inl a ↦ joined_at e.head (layer_of layers e.tail +ℤ pos e.least) (t.from_tail a) lh (head_out a) mark_head (reach_tail a)
          | inr a ↦ joined_at e.tail (layer_of layers e.head -ℤ pos e.least) (t.from_head a) lt a (mark_tail two_ends) (reach_head a)
        ]

  -- the end: all nodes are joined
  module _ (count : ℕ) (tree reached : List Bool) (by : ℤ) (layers : List ℤ) (order place parent : List ℕ) (s : IsGrown nodes edges count tree reached by layers order place parent) (all : nodes ≤ count) where
    every : (v : ℕ) → v < nodes → is_in reached v ≡ true
    every v l = elim (cases_Bool (is_in reached v)) [
      | inl a ↦ a
      | inr a ↦ let r = holding_room (is_in reached) nodes v l a in let c = s.planted.counted in absurd (omega (arith, r, c, all))
    ]

    end_real : (v : ℕ) → v < nodes → layer_of (shifted (is_in reached) by layers) v ≡ layer_of layers v +ℤ by
    end_real v l = shifted_at (is_in reached) by layers v (let n = s.layer_each in omega (arith, n, l)) ∙ ap (λ b. cond b (layer_of layers v +ℤ by) (layer_of layers v)) (every v l)

    pub grown_state : IsState nodes edges (kept_state tree layers)
    grown_state = record {
      layer_for_each = s.layer_each;
      layering = λ k l.
          let u = s.growing.layering k l in
          let t = end_real (edge_at edges k).tail (net.ends k l).0 in
          let h = end_real (edge_at edges k).head (net.ends k l).1 in
          omega (arith, ints, u, t, h);
      spanning = record {
        mark_for_each = s.growing.mark_for_each;
        spans = λ v l. s.growing.spans v (every v l);
        no_cycle = λ k l m. let c = s.growing.cuts k l m in cut_no_cycle edges tree k c.0 c.1;
      };
      tight = λ k l m.
          let u = s.growing.tight k l m in
          let t = end_real (edge_at edges k).tail (net.ends k l).0 in
          let h = end_real (edge_at edges k).head (net.ends k l).1 in
          omega (arith, ints, u, t, h);
    }

    pub grown_kept : IsKept nodes edges tree layers order place parent
    grown_kept = record {
      is = grown_state;
      root = s.root;
      rooted = all_planted nodes edges tree (is_in reached) count order place parent s.planted net.ends every;
    }

    pub grown_stands : (start : List ℤ) → growing_of tree reached by layers ≡ grown edges (nodes - 1) (seed nodes edges start) → StandsFor nodes (first_state nodes edges start) tree layers
    grown_stands start is =
        subst (λ g. StandsFor nodes (state_of g) tree layers) is (record {
          tree_is = refl;
          layer_each = length_shifted (is_in reached) by layers ∙ s.layer_each;
          by = by;
          layers_are = end_real;
        })

-- the seed, as the code makes it
module _ (nodes : ℕ) (edges : List NetEdge) (net : IsNetwork nodes edges) (some : 0 < nodes) (start : List ℤ) (g : AreGreatestSums nodes edges start) (up : IsLayering edges start) (order place parent : List ℕ) (lo : length order ≡ nodes) (lp : length place ≡ nodes) (la : length parent ≡ nodes) (tree reached : List Bool) (by : ℤ) (layers : List ℤ) (order' place' : List ℕ) (tree_is : tree ≡ replicate (length edges) false) (reached_is : reached ≡ replicate nodes false) (by_is : by ≡ layer_of start 0) (layers_are : layers ≡ set start 0 (pos 0)) (order_is : order' ≡ set order 0 0) (place_is : place' ≡ set place 0 0) where
  abbrev blank : List Bool
  blank = replicate (length edges) false

  abbrev root_only : List Bool
  root_only = set (replicate nodes false) 0 true

  pub made_grown : IsGrown nodes edges 1 tree (set reached 0 true) by layers order' place' (set parent 0 (length edges))
  made_grown = rw (tree_is, reached_is, by_is, layers_are, order_is, place_is) (start_grown nodes edges net some start g up order place parent lo lp la)

  pub made_seed : growing_of tree (set reached 0 true) by layers ≡ seed nodes edges start
  made_seed =
      subst (λ x. growing_of x (set reached 0 true) by layers ≡ seed nodes edges start) (sym tree_is)
      (subst (λ x. growing_of blank (set x 0 true) by layers ≡ seed nodes edges start) (sym reached_is)
      (subst (λ x. growing_of blank root_only x layers ≡ seed nodes edges start) (sym by_is)
      (subst (λ x. growing_of blank root_only (layer_of start 0) x ≡ seed nodes edges start) (sym layers_are)
      (start_is nodes edges net some start g up order place parent lo lp la))))

-- one step fewer is left
pub grown_step : (nodes i : ℕ) (edges : List NetEdge) (before after last : Growing) → i < nodes → after ≡ grown_once edges before → grown edges (nodes - i) before ≡ last → grown edges (nodes - (i + 1)) after ≡ last
grown_step nodes i edges before after last l is rest =
    let e : nodes - i ≡ suc (nodes - (i + 1)) = omega (arith, l) in
    ap (grown edges (nodes - (i + 1))) is ∙ (sym (ap (λ m. grown edges m before) e) ∙ rest)

pub tells_slack : (size : ℕ → ℕ) (o : Option ℕ) (c : Choice) → Tells size o (Some c) → c.slack ≡ pos (size c.edge)
tells_slack size None c t = absurd t
tells_slack size (Some k) c t = t.1 ∙ ap (λ j. pos (size j)) (sym t.0)
