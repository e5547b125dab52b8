-- One more split makes a chain one edge longer and leaves the others.
use Rattle.std.proofs.Common.{◌≡◌, ◌≢◌, ℕ, ◌+◌, ◌<◌, eq-eqb, cond, Bool, true, false, List, [], ◌∷◌, ◌++◌, length, map, Option, Some, None, IsSome, is_some, arith, refl, sym, ap, ◌∙◌, subst, inl, inr, append_assoc}
use Rattle.std.proofs.lemmas.Bool.{cases_eq}
use Rattle.std.proofs.lemmas.List.{map-append, length-map, length-append}
use Rattle.std.specs.List.{slice_index}
use Rattle.graph_arena.specs.Graph.{Graph, Ends, Lists, lists_at, ends_at, IsNode, IsEdge, in_list, inward_of, outward_of, occurs, if_end, tail_in, head_in, IsIncidence}
use Rattle.graph_arena.specs.Changes.{IsSame, Splits, renamed}
use Rattle.graph_arena.specs.declared.keys.EdgeKey.{EdgeKey}
use Rattle.long_edges.specs.declared.chains.Lane.{Lane}
use Rattle.long_edges.specs.Chains.{Joins, Climbs, IsChain, AreChains, InOne, lanes_on, lane_nodes, last_of, tip, edge_keys, one_if_some}
use Rattle.long_edges.specs.Growing.{Grown, changed, alone, Extended}
use Rattle.long_edges.proofs.Lists.{eqb_other, occurs-append, occurs_one, occurs_none, last_occurs, tip_more, map_same, map_twice, lanes_more, lanes_same, nodes_more, same_live}

-- a chain ends at its head
pub climbs_head : (old new : Graph) (low k : ℕ) (ks : List ℕ) (ls : List Lane) (head : ℕ) → Climbs old new low k ks ls head → head_in (ends_at new (last_of k ks)) ≡ Some head
climbs_head old new low k [] [] head c = c
climbs_head old new low k [] (l ∷ ls) head c = absurd c
climbs_head old new low k (j ∷ ks) [] head c = absurd c
climbs_head old new low k (j ∷ ks) (l ∷ ls) head c = climbs_head old new (low + 1) j ks ls head c.2

pub some_inj : (a b : ℕ) → Some a ≡ Some b → a ≡ b
some_inj a b h = cc

head_live : (o : Option Ends) (v : ℕ) → head_in o ≡ Some v → o ≢ None
head_live None v h e = cc
head_live (Some x) v h e = cc

tail_live : (o : Option Ends) (v : ℕ) → tail_in o ≡ Some v → o ≢ None
tail_live None v h e = cc
tail_live (Some x) v h e = cc

same_ends : (x y : Ends) → Some x ≡ Some y → x ≡ y
same_ends x y h = cc

-- an edge in a node's list of edges in enters it
enters_at : (o : Option Ends) (v : ℕ) → 0 < if_end (head_in o) v → (z : Ends) × (o ≡ Some z) × (z.head ≡ v)
enters_at None v h = absurd (omega arith)
enters_at (Some z) v h =
    elim (cases_eq z.head v) [
      | inl i ↦ (z, refl, i)
      | inr n ↦ absurd (let q = rw (eqb_other z.head v n) at h in omega (arith, q))
    ]

map_itself : (xs : List ℕ) → map (λ k. k) xs ≡ xs
map_itself [] = refl
map_itself (x ∷ xs) = ap (λ (l : List ℕ). x ∷ l) (map_itself xs)

not_none : {T : Type 0} (o : Option T) → IsSome o → o ≢ None
not_none None h e = cc
not_none (Some x) h e = cc

pub some_or : {T : Type 0} (o : Option T) → o ≢ None → IsSome o
some_or None h = absurd (h refl)
some_or (Some x) h = refl

module _ (old g h : Graph) (layer : List ℕ) (lanes : List Lane) (C D : ℕ → List ℕ) (e t m f : ℕ) (x y : Ends) (lane : Lane) (gr : Grown old g layer lanes C) (is : ends_at old e ≡ Some x) (at : ends_at g t ≡ Some y) (last : tip (C e) ≡ t) (s : Splits g h t m f y.tail y.head) (node_is : lane.node.at ≡ m) (layer_is : lane.layer ≡ slice_index layer x.tail + length (C e)) (edge_is : lane.edge.at ≡ e) (here : D e ≡ C e ++ f ∷ []) (elsewhere : (j : ℕ) → j ≢ e → D j ≡ C j) where
  chain : IsChain old g (slice_index layer x.tail) e x (lanes_on lanes e) (C e)
  chain = gr.chains.each e x is

  last_is : last_of e chain.rest ≡ t
  last_is = sym (ap tip chain.is) ∙ last

  head_is : y.head ≡ x.head
  head_is =
      let c : head_in (ends_at g (last_of e chain.rest)) ≡ Some x.head = climbs_head old g (slice_index layer x.tail) e chain.rest (lanes_on lanes e) x.head chain.climbs in
      let d : head_in (ends_at g t) ≡ Some x.head = subst (λ (k : ℕ). head_in (ends_at g k) ≡ Some x.head) last_is c in
      some_inj y.head x.head (sym (ap head_in at) ∙ d)

  head_old : IsNode old y.head
  head_old = subst (λ (v : ℕ). IsNode old v) (sym head_is) (gr.sound.heads e x is)

  none_before : one_if_some (lists_at old m) + occurs m (lane_nodes lanes) ≡ 0
  none_before = gr.nodes.once m ∙ ap one_if_some s.node_was_free

  new_node : lists_at old m ≡ None
  new_node = none_of (lists_at old m) (omega (arith, none_before))
    where
      none_of : (o : Option Lists) → one_if_some o ≡ 0 → o ≡ None
      none_of None z = refl
      none_of (Some l) z = cc

  tail_kept : (j v : ℕ) → tail_in (ends_at g j) ≡ Some v → tail_in (ends_at h j) ≡ Some v
  tail_kept j v q =
      elim (cases_eq j t) [
        | inl i ↦
            let a : tail_in (ends_at g t) ≡ Some v = subst (λ (k : ℕ). tail_in (ends_at g k) ≡ Some v) i q in
            let b : Some y.tail ≡ Some v = sym (ap tail_in at) ∙ a in
            subst (λ (k : ℕ). tail_in (ends_at h k) ≡ Some v) (sym i) (ap tail_in s.near ∙ b)
        | inr n ↦
            let d : j ≢ f = λ i. tail_live (ends_at g j) v q (subst (λ (k : ℕ). ends_at g k ≡ None) (sym i) s.edge_was_free) in
            ap tail_in (s.other_edges j n d) ∙ q
      ]

  head_kept : (j v : ℕ) → j ≢ t → head_in (ends_at g j) ≡ Some v → head_in (ends_at h j) ≡ Some v
  head_kept j v n q =
      let d : j ≢ f = λ i. head_live (ends_at g j) v q (subst (λ (k : ℕ). ends_at g k ≡ None) (sym i) s.edge_was_free) in
      ap head_in (s.other_edges j n d) ∙ q

  joins_kept : (n k j : ℕ) → Joins old g n k j → Joins old h n k j
  joins_kept n k j q =
      let not_head : n ≢ y.head = λ i. not_none (lists_at old y.head) head_old (subst (λ (v : ℕ). lists_at old v ≡ None) i q.is_new) in
      let not_m : n ≢ m = λ i. (let a : in_list g m ≡ k ∷ [] = subst (λ (v : ℕ). in_list g v ≡ k ∷ []) i q.ins in let b : in_list g m ≡ [] = ap inward_of s.node_was_free in let c : k ∷ [] ≡ [] = sym a ∙ b in cc) in
      let not_t : k ≢ t = λ i. (let a : head_in (ends_at g t) ≡ Some n = subst (λ (v : ℕ). head_in (ends_at g v) ≡ Some n) i q.near in not_head (some_inj n y.head (sym a ∙ ap head_in at))) in
      record {
        is_new = q.is_new;
        near = head_kept k n not_t q.near;
        far = tail_kept j n q.far;
        outs = s.other_outs n not_m ∙ q.outs;
        ins = s.other_ins n not_m not_head ∙ q.ins;
      }

  climbs_kept : (low k : ℕ) (ks : List ℕ) (ls : List Lane) (head : ℕ) → last_of k ks ≢ t → Climbs old g low k ks ls head → Climbs old h low k ks ls head
  climbs_kept low k [] [] head n c = head_kept k head n c
  climbs_kept low k [] (l ∷ ls) head n c = absurd c
  climbs_kept low k (j ∷ ks) [] head n c = absurd c
  climbs_kept low k (j ∷ ks) (l ∷ ls) head n c = (joins_kept l.node.at k j c.0, c.1, climbs_kept (low + 1) j ks ls head n c.2)

  joined : Joins old h lane.node.at t f
  joined =
      subst (λ (v : ℕ). Joins old h v t f) (sym node_is)
      (record {
        is_new = new_node;
        near = ap head_in s.near;
        far = ap tail_in s.far;
        outs = ap outward_of s.at_node;
        ins = ap inward_of s.at_node;
      })

  climbs_more : (low k : ℕ) (ks : List ℕ) (ls : List Lane) → last_of k ks ≡ t → lane.layer ≡ low + length ks + 1 → Climbs old g low k ks ls x.head → Climbs old h low k (ks ++ f ∷ []) (ls ++ lane ∷ []) x.head
  climbs_more low k [] [] q l c =
      (subst (λ (j : ℕ). Joins old h lane.node.at j f) (sym q) joined, omega (arith, l), ap head_in s.far ∙ ap Some head_is)
  climbs_more low k [] (a ∷ ls) q l c = absurd c
  climbs_more low k (j ∷ ks) [] q l c = absurd c
  climbs_more low k (j ∷ ks) (a ∷ ls) q l c =
      (joins_kept a.node.at k j c.0, c.1, climbs_more (low + 1) j ks ls q (omega (arith, l)) c.2)

  lanes_here : lanes_on (lanes ++ lane ∷ []) e ≡ lanes_on lanes e ++ lane ∷ []
  lanes_here = lanes_more lanes lane e edge_is

  lanes_elsewhere : (j : ℕ) → j ≢ e → lanes_on (lanes ++ lane ∷ []) j ≡ lanes_on lanes j
  lanes_elsewhere j n = lanes_same lanes lane j (λ i. n (sym i ∙ edge_is))

  top_in : 0 < occurs t (C e)
  top_in = subst (λ (l : List ℕ). 0 < occurs t l) (sym chain.is) (subst (λ (k : ℕ). 0 < occurs k (e ∷ chain.rest)) last_is (last_occurs e chain.rest))

  -- the top edge stands in no other chain
  only_here : (j : ℕ) → j ≢ e → occurs t (C j) ≡ 0
  only_here j n =
      let o : InOne C t = gr.edges.live t (ap is_some at) in
      elim (cases_eq j o.edge) [
        | inl i ↦ let z = o.nowhere_else e (λ q. n (i ∙ sym q)) in absurd (omega (arith, z, top_in))
        | inr d ↦ o.nowhere_else j d
      ]

  other_last : (j : ℕ) (rest : List ℕ) → j ≢ e → C j ≡ j ∷ rest → last_of j rest ≢ t
  other_last j rest n q i =
      let o : occurs t (j ∷ rest) ≡ 0 = subst (λ (l : List ℕ). occurs t l ≡ 0) q (only_here j n) in
      let p : 0 < occurs t (j ∷ rest) = subst (λ (k : ℕ). 0 < occurs k (j ∷ rest)) i (last_occurs j rest) in
      omega (arith, o, p)

  other_chain : (low j : ℕ) (z : Ends) → j ≢ e → IsChain old g low j z (lanes_on lanes j) (C j) → IsChain old h low j z (lanes_on (lanes ++ lane ∷ []) j) (D j)
  other_chain low j z n c =
      record {
        rest = c.rest;
        is = elsewhere j n ∙ c.is;
        tail = tail_kept j z.tail c.tail;
        climbs = subst (λ (ls : List Lane). Climbs old h low j c.rest ls z.head) (sym (lanes_elsewhere j n)) (climbs_kept low j c.rest (lanes_on lanes j) z.head (other_last j c.rest n c.is) c.climbs);
      }

  this_chain : IsChain old h (slice_index layer x.tail) e x (lanes_on (lanes ++ lane ∷ []) e) (D e)
  this_chain =
      let low = slice_index layer x.tail in
      record {
        rest = chain.rest ++ f ∷ [];
        is = here ∙ ap (λ (l : List ℕ). l ++ f ∷ []) chain.is;
        tail = tail_kept e x.tail chain.tail;
        climbs = subst (λ (ls : List Lane). Climbs old h low e (chain.rest ++ f ∷ []) ls x.head) (sym lanes_here) (climbs_more low e chain.rest (lanes_on lanes e) last_is (let l = ap length chain.is in omega (arith, layer_is, l)) chain.climbs);
      }

  each_chain : (j : ℕ) (z : Ends) → ends_at old j ≡ Some z → IsChain old h (slice_index layer z.tail) j z (lanes_on (lanes ++ lane ∷ []) j) (D j)
  each_chain j z q =
      elim (cases_eq j e) [
        | inl i ↦
            let same : x ≡ z = same_ends x z (sym is ∙ subst (λ (k : ℕ). ends_at old k ≡ Some z) i q) in
            subst (λ (w : Ends). IsChain old h (slice_index layer w.tail) j w (lanes_on (lanes ++ lane ∷ []) j) (D j)) same
            (subst (λ (k : ℕ). IsChain old h (slice_index layer x.tail) k x (lanes_on (lanes ++ lane ∷ []) k) (D k)) (sym i) this_chain)
        | inr n ↦ other_chain (slice_index layer z.tail) j z n (gr.chains.each j z q)
      ]

  not_dead : (j : ℕ) → ends_at old j ≡ None → j ≢ e
  not_dead j q i = let a : ends_at old e ≡ None = subst (λ (k : ℕ). ends_at old k ≡ None) i q in let b : Some x ≡ None = sym is ∙ a in cc

  chains_more : AreChains old h layer (lanes ++ lane ∷ []) D
  chains_more =
      record {
        each = each_chain;
        no_chain = λ j q. elsewhere j (not_dead j q) ∙ gr.chains.no_chain j q;
        no_lanes = λ j q. lanes_elsewhere j (not_dead j q) ∙ gr.chains.no_lanes j q;
      }

  occurs_kept : (k j : ℕ) → k ≢ f → occurs k (D j) ≡ occurs k (C j)
  occurs_kept k j n =
      elim (cases_eq j e) [
        | inl i ↦
            let a = occurs-append k (C e) (f ∷ []) in
            let b = ap (λ (l : List ℕ). occurs k l) here in
            let c = occurs_none k f (λ q. n (sym q)) in
            let d : occurs k (D e) ≡ occurs k (C e) = omega (arith, a, b, c) in
            subst (λ (z : ℕ). occurs k (D z) ≡ occurs k (C z)) (sym i) d
        | inr d ↦ ap (λ (l : List ℕ). occurs k l) (elsewhere j d)
      ]

  new_once : occurs f (D e) ≡ 1
  new_once =
      let a = occurs-append f (C e) (f ∷ []) in
      let b = ap (λ (l : List ℕ). occurs f l) here in
      let c = occurs_one f in
      let d = gr.edges.dead f e s.edge_was_free in
      omega (arith, a, b, c, d)

  live_one : (k : ℕ) → IsEdge h k → InOne D k
  live_one k l =
      elim (cases_eq k f) [
        | inl i ↦
            subst (λ (z : ℕ). InOne D z) (sym i)
            (record { edge = e; once = new_once; nowhere_else = λ j d. ap (λ (l : List ℕ). occurs f l) (elsewhere j d) ∙ gr.edges.dead f j s.edge_was_free })
        | inr n ↦
            let before : IsEdge g k =
            elim (cases_eq k t) [
              | inl i ↦ subst (λ (z : ℕ). IsEdge g z) (sym i) (ap is_some at)
              | inr d ↦ ap is_some (sym (s.other_edges k d n)) ∙ l
            ]
            in
            let o = gr.edges.live k before in
            record { edge = o.edge; once = occurs_kept k o.edge n ∙ o.once; nowhere_else = λ j d. occurs_kept k j n ∙ o.nowhere_else j d }
      ]

  dead_none : (k j : ℕ) → ends_at h k ≡ None → occurs k (D j) ≡ 0
  dead_none k j d =
      let not_far : k ≢ f = λ i. (let a : ends_at h f ≡ None = subst (λ (z : ℕ). ends_at h z ≡ None) i d in not_none (ends_at h f) (ap is_some s.far) a) in
      let not_near : k ≢ t = λ i. (let a : ends_at h t ≡ None = subst (λ (z : ℕ). ends_at h z ≡ None) i d in not_none (ends_at h t) (ap is_some s.near) a) in
      occurs_kept k j not_far ∙ gr.edges.dead k j (sym (s.other_edges k not_near not_far) ∙ d)

  nodes_once : (v : ℕ) → one_if_some (lists_at old v) + occurs v (lane_nodes (lanes ++ lane ∷ [])) ≡ one_if_some (lists_at h v)
  nodes_once v =
      let a = nodes_more lanes lane v in
      elim (cases_eq v m) [
        | inl i ↦
            let b = nodes_more lanes lane m in
            let one : occurs m (lane.node.at ∷ []) ≡ 1 = subst (λ (n : ℕ). occurs m (n ∷ []) ≡ 1) (sym node_is) (occurs_one m) in
            let there : one_if_some (lists_at h m) ≡ 1 = ap one_if_some s.at_node in
            let c : one_if_some (lists_at old m) + occurs m (lane_nodes (lanes ++ lane ∷ [])) ≡ one_if_some (lists_at h m) = omega (arith, b, one, there, none_before) in
            subst (λ (z : ℕ). one_if_some (lists_at old z) + occurs z (lane_nodes (lanes ++ lane ∷ [])) ≡ one_if_some (lists_at h z)) (sym i) c
        | inr n ↦
            let none : occurs v (lane.node.at ∷ []) ≡ 0 = occurs_none v lane.node.at (λ q. n (sym q ∙ node_is)) in
            let same = same_live (lists_at h v) (lists_at g v) (s.same_nodes v n) in
            let b = gr.nodes.once v in
            omega (arith, a, none, same, b)
      ]

  old_not_new : (v : ℕ) → IsNode old v → v ≢ m
  old_not_new v l i = not_none (lists_at old v) l (subst (λ (z : ℕ). lists_at old z ≡ None) (sym i) new_node)

  renamed_same : renamed t f t ≡ f
  renamed_same = rw (eq-eqb t t refl) refl

  renamed_other : (k : ℕ) → k ≢ t → renamed t f k ≡ k
  renamed_other k n = rw (eqb_other k t n) refl

  entered : (v j : ℕ) → 0 < occurs j (in_list old v) → (z : Ends) × (ends_at old j ≡ Some z) × (z.head ≡ v)
  entered v j o = enters_at (ends_at old j) v (let q = gr.sound.ins v j in omega (arith, o, q))

  tips_at_head : (j : ℕ) → 0 < occurs j (in_list old y.head) → renamed t f (tip (C j)) ≡ tip (D j)
  tips_at_head j o =
      elim (cases_eq j e) [
        | inl i ↦
            let a : tip (D e) ≡ f = ap tip here ∙ tip_more (C e) f in
            let b : renamed t f (tip (C e)) ≡ f = ap (renamed t f) last ∙ renamed_same in
            subst (λ (z : ℕ). renamed t f (tip (C z)) ≡ tip (D z)) (sym i) (b ∙ sym a)
        | inr n ↦
            let z = entered y.head j o in
            let c = gr.chains.each j z.0 z.1 in
            let k : tip (C j) ≢ t = λ q. other_last j c.rest n c.is (sym (ap tip c.is) ∙ q) in
            renamed_other (tip (C j)) k ∙ ap tip (sym (elsewhere j n))
      ]

  tips_elsewhere : (v j : ℕ) → v ≢ y.head → 0 < occurs j (in_list old v) → tip (C j) ≡ tip (D j)
  tips_elsewhere v j n o =
      let z = entered v j o in
      let other : j ≢ e = λ i. (let same : x ≡ z.0 = same_ends x z.0 (sym is ∙ subst (λ (k : ℕ). ends_at old k ≡ Some z.0) i z.1) in n (sym z.2 ∙ (sym (ap (λ (w : Ends). w.head) same) ∙ sym head_is))) in
      ap tip (sym (elsewhere j other))

  ins_at : (v : ℕ) → IsNode old v → in_list h v ≡ map (λ k. tip (D k)) (in_list old v)
  ins_at v l =
      elim (cases_eq v y.head) [
        | inl i ↦
            subst (λ (z : ℕ). in_list h z ≡ map (λ k. tip (D k)) (in_list old z)) (sym i)
            (s.at_head ∙ (ap (map (renamed t f)) (gr.orders.ins y.head head_old) ∙ (map_twice (renamed t f) (λ k. tip (C k)) (in_list old y.head) ∙ map_same (λ k. renamed t f (tip (C k))) (λ k. tip (D k)) (in_list old y.head) tips_at_head)))
        | inr n ↦
            s.other_ins v (old_not_new v l) n ∙ (gr.orders.ins v l ∙ map_same (λ k. tip (C k)) (λ k. tip (D k)) (in_list old v) (λ j o. tips_elsewhere v j n o))
      ]

  pub grown_more : Grown old h layer (lanes ++ lane ∷ []) D
  grown_more =
      record {
        sound = gr.sound;
        chains = chains_more;
        edges = record { live = live_one; dead = dead_none };
        nodes = record { once = nodes_once };
        orders = record { outs = λ v l. s.other_outs v (old_not_new v l) ∙ gr.orders.outs v l; ins = ins_at };
      }

-- ---- chains that are equal for each key

module _ (old g : Graph) (layer : List ℕ) (lanes : List Lane) (C D : ℕ → List ℕ) (same : (j : ℕ) → D j ≡ C j) (gr : Grown old g layer lanes C) where
  pub grown_same : Grown old g layer lanes D
  grown_same =
      record {
        sound = gr.sound;
        chains =
            record {
              each = λ e x is. subst (λ (c : List ℕ). IsChain old g (slice_index layer x.tail) e x (lanes_on lanes e) c) (sym (same e)) (gr.chains.each e x is);
              no_chain = λ e q. same e ∙ gr.chains.no_chain e q;
              no_lanes = gr.chains.no_lanes;
            };
        edges =
            record {
              live = λ k l. (let o = gr.edges.live k l in record { edge = o.edge; once = ap (λ (c : List ℕ). occurs k c) (same o.edge) ∙ o.once; nowhere_else = λ j d. ap (λ (c : List ℕ). occurs k c) (same j) ∙ o.nowhere_else j d });
              dead = λ k j d. ap (λ (c : List ℕ). occurs k c) (same j) ∙ gr.edges.dead k j d;
            };
        nodes = gr.nodes;
        orders =
            record {
              outs = gr.orders.outs;
              ins = λ v l. gr.orders.ins v l ∙ map_same (λ k. tip (C k)) (λ k. tip (D k)) (in_list old v) (λ j o. ap tip (sym (same j)));
            };
      }

-- ---- nothing is split yet

module _ (old g : Graph) (layer : List ℕ) (sound : IsIncidence old) (same : IsSame old g) where
  alone_live : (e : ℕ) → IsEdge old e → alone old e ≡ e ∷ []
  alone_live e l = rw l refl

  alone_dead : (e : ℕ) → ends_at old e ≡ None → alone old e ≡ []
  alone_dead e d = rw d refl

  alone_other : (b : Bool) (k j : ℕ) → j ≢ k → occurs k (cond b (j ∷ []) []) ≡ 0
  alone_other true k j n = occurs_none k j n
  alone_other false k j n = refl

  alone_once : (k : ℕ) → IsEdge g k → InOne (alone old) k
  alone_once k l =
      let was : IsEdge old k = ap is_some (sym (same.same_edges k)) ∙ l in
      record {
        edge = k;
        once = ap (λ (c : List ℕ). occurs k c) (alone_live k was) ∙ occurs_one k;
        nowhere_else = λ j n. alone_other (is_some (ends_at old j)) k j n;
      }

  alone_none : (k j : ℕ) → ends_at g k ≡ None → occurs k (alone old j) ≡ 0
  alone_none k j d =
      elim (cases_eq j k) [
        | inl i ↦ subst (λ (z : ℕ). occurs k (alone old z) ≡ 0) (sym i) (ap (λ (c : List ℕ). occurs k c) (alone_dead k (sym (same.same_edges k) ∙ d)))
        | inr n ↦ alone_other (is_some (ends_at old j)) k j n
      ]

  tips_alone : (v : ℕ) → map (λ k. tip (alone old k)) (in_list old v) ≡ in_list old v
  tips_alone v =
      map_same (λ k. tip (alone old k)) (λ k. k) (in_list old v) (λ j o. (let z = enters_at (ends_at old j) v (let q = sound.ins v j in omega (arith, o, q)) in ap tip (alone_live j (ap is_some z.1)))) ∙ map_itself (in_list old v)

  pub grown_start : Grown old g layer [] (alone old)
  grown_start =
      record {
        sound = sound;
        chains =
            record {
              each = λ e x is. (let now : ends_at g e ≡ Some x = same.same_edges e ∙ is in record { rest = []; is = alone_live e (ap is_some is); tail = ap tail_in now; climbs = ap head_in now });
              no_chain = alone_dead;
              no_lanes = λ e d. refl;
            };
        edges = record { live = alone_once; dead = alone_none };
        nodes = record { once = λ v. (let q = ap one_if_some (same.same_nodes v) in omega (arith, q)) };
        orders = record { outs = λ v l. ap outward_of (same.same_nodes v); ins = λ v l. ap inward_of (same.same_nodes v) ∙ sym (tips_alone v) };
      }

-- ---- one chain is another one

pub changed_here : (chain : ℕ → List ℕ) (e : ℕ) (ks : List ℕ) → changed chain e ks e ≡ ks
changed_here chain e ks = rw (eq-eqb e e refl) refl

pub changed_other : (chain : ℕ → List ℕ) (e : ℕ) (ks : List ℕ) (j : ℕ) → j ≢ e → changed chain e ks j ≡ chain j
changed_other chain e ks j n = rw (eqb_other j e n) refl

-- nothing changes where the chain is what it was
pub changed_same : (chain : ℕ → List ℕ) (e : ℕ) (ks : List ℕ) → chain e ≡ ks → (j : ℕ) → changed chain e ks j ≡ chain j
changed_same chain e ks h j =
    elim (cases_eq j e) [
      | inl i ↦ subst (λ (z : ℕ). changed chain e ks z ≡ chain z) (sym i) (changed_here chain e ks ∙ sym h)
      | inr n ↦ changed_other chain e ks j n
    ]

pub tail_from : (o : Option Ends) (v : ℕ) → tail_in o ≡ Some v → (x : Ends) × (o ≡ Some x) × (x.tail ≡ v)
tail_from None v h = cc
tail_from (Some x) v h = (x, refl, let q : Some x.tail ≡ Some v = h in cc)

pub head_from : (o : Option Ends) (v : ℕ) → head_in o ≡ Some v → (x : Ends) × (o ≡ Some x) × (x.head ≡ v)
head_from None v h = cc
head_from (Some x) v h = (x, refl, let q : Some x.head ≡ Some v = h in cc)

pub ends_of : (o : Option Ends) → IsSome o → (y : Ends) × (o ≡ Some y)
ends_of None h = cc
ends_of (Some y) h = (y, refl)

pub extended_start : (g : Graph) (e low : ℕ) (lanes : List Lane) (edges0 edges1 : List EdgeKey) (edge : EdgeKey) → edge.at ≡ e → edges1 ≡ edges0 ++ edge ∷ [] → Extended g g e e low 1 lanes lanes edges0 edges1
extended_start g e low lanes edges0 edges1 edge q h =
    record {
      more = edge ∷ [];
      edges = h;
      count = refl;
      last = q;
      grown = λ old layer x chain gr is lo one. grown_same old g layer lanes chain (changed chain e (edge.at ∷ [])) (changed_same chain e (edge.at ∷ []) (one ∙ ap (λ (k : ℕ). k ∷ []) (sym q))) gr;
    }

module _ (g0 g h : Graph) (e t low n m : ℕ) (lanes0 lanes : List Lane) (edges0 edges : List EdgeKey) (ext : Extended g0 g e t low n lanes0 lanes edges0 edges) (far : EdgeKey) (y : Ends) (at : ends_at g t ≡ Some y) (s : Splits g h t m far.at y.tail y.head) (lane : Lane) (node_is : lane.node.at ≡ m) (layer_is : lane.layer ≡ low + n) (edge_is : lane.edge.at ≡ e) where
  keys_are : edge_keys (ext.more ++ far ∷ []) ≡ edge_keys ext.more ++ far.at ∷ []
  keys_are = map-append (λ (k : EdgeKey). k.at) ext.more (far ∷ [])

  grows : (old : Graph) (layer : List ℕ) (x : Ends) (chain : ℕ → List ℕ) → Grown old g0 layer lanes0 chain → ends_at old e ≡ Some x → slice_index layer x.tail ≡ low → chain e ≡ e ∷ [] → Grown old h layer (lanes ++ lane ∷ []) (changed chain e (edge_keys (ext.more ++ far ∷ [])))
  grows old layer x chain gr is lo one =
      let ks : List ℕ = edge_keys ext.more in
      let ls : List ℕ = edge_keys (ext.more ++ far ∷ []) in
      let now : changed chain e ks e ≡ ks = changed_here chain e ks in
      let count : length ks ≡ n = length-map ext.more (λ (k : EdgeKey). k.at) ∙ ext.count in
      let tall : lane.layer ≡ slice_index layer x.tail + length (changed chain e ks e) = (let q : length (changed chain e ks e) ≡ length ks = ap (λ (l : List ℕ). length l) now in omega (arith, q, count, lo, layer_is)) in
      grown_more old g h layer lanes (changed chain e ks) (changed chain e ls) e t m far.at x y lane (ext.grown old layer x chain gr is lo one) is at (ap tip now ∙ ext.last) s node_is tall edge_is
      (changed_here chain e ls ∙ (keys_are ∙ ap (λ (l : List ℕ). l ++ far.at ∷ []) (sym now)))
      (λ j d. changed_other chain e ls j d ∙ sym (changed_other chain e ks j d))

  pub extended_more : Extended g0 h e far.at low (n + 1) lanes0 (lanes ++ lane ∷ []) edges0 (edges ++ far ∷ [])
  extended_more =
      record {
        more = ext.more ++ far ∷ [];
        edges = ap (λ (l : List EdgeKey). l ++ far ∷ []) ext.edges ∙ append_assoc edges0 ext.more (far ∷ []);
        count = (let l = length-append ext.more (far ∷ []) in let c = ext.count in omega (arith, l, c));
        last = ap tip keys_are ∙ tip_more (edge_keys ext.more) far.at;
        grown = grows;
      }
