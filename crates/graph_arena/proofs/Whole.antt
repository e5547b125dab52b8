-- What the steps of a change make of the whole arena.
use Rattle.std.proofs.Common.{◌≡◌, ◌≢◌, ◌↔◌, ℕ, ◌+◌, ◌≤◌, ◌^◌, eq-eqb, List, [], ◌∷◌, ◌++◌, map, Option, Some, None, IsSome, is_some, arith, refl, sym, ap, ◌∙◌, subst, inl, inr}
use Rattle.std.proofs.Math.Path.{fun_ext}
use Rattle.std.proofs.lemmas.Bool.{cases_eq}
use Rattle.slab.specs.Slab.{Slab, get, slab_len}
use Rattle.graph_arena.specs.declared.slots.Flank.{Flank}
use Rattle.graph_arena.specs.declared.slots.Flank.TheVariants.{Outward, Inward}
use Rattle.graph_arena.specs.declared.slots.EdgeList.{EdgeList}
use Rattle.graph_arena.specs.declared.slots.Place.{Place}
use Rattle.graph_arena.specs.declared.slots.NodeSlot.{NodeSlot}
use Rattle.graph_arena.specs.declared.slots.EdgeSlot.{EdgeSlot}
use Rattle.graph_arena.specs.Graph.{lists_at, IsNode, occurs, if_end}
use Rattle.graph_arena.specs.Changes.{AddsNode, AddsEdge, RemovesEdge, Reverses, Splits, without, renamed}
use Rattle.graph_arena.specs.Chain.{row_keys, IsRow, IsFlank}
use Rattle.graph_arena.specs.Flanks.{row_in, place_in, next_in, prev_in, node_in, row, next, prev, owner, keys, IsFlankOf, Kept, Moved, MovedBoth, Loosened, Unmoved, HandedOver, IsSound, graph_of, lists_in, ends_in, no_row, no_place, empty_node, loose_edge}
use Rattle.graph_arena.proofs.Chains.{eqb_other, occurs_tail, some_row_inj}
use Rattle.graph_arena.proofs.Moves.{owner_is_node, owner_live}
use Rattle.graph_arena.proofs.Views.{ends_are, lists_are, outs_are, ins_are, node_is, lists_from, ends_from, ends_same}

pub by_flank : (P : Flank → Type 0) → P Outward → P Inward → (s : Flank) → P s
by_flank P a b Outward = a
by_flank P a b Inward = b

pub some_of : {X : Type 0} (o : Option X) → IsSome o → (x : X) × (o ≡ Some x)
some_of None h = cc
some_of (Some x) h = (x, refl)

pub some_is : {X : Type 0} (o : Option X) (x : X) → o ≡ Some x → IsSome o
some_is o x h = rw h refl

-- ---- one side is as it was

pub record SameFlank (t : Flank) (nodes : Slab NodeSlot) (edges : Slab EdgeSlot) (nodes' : Slab NodeSlot) (edges' : Slab EdgeSlot) : Type 0 where
  pub rows : (v : ℕ) → row t nodes' v ≡ row t nodes v
  pub nexts : (e : ℕ) → next t edges' e ≡ next t edges e
  pub prevs : (e : ℕ) → prev t edges' e ≡ prev t edges e
  pub owners : (e : ℕ) → owner t edges' e ≡ owner t edges e

flank_eq : (row row' : ℕ → Option EdgeList) (next next' prev prev' owner owner' : ℕ → Option ℕ) → row ≡ row' → next ≡ next' → prev ≡ prev' → owner ≡ owner' → IsFlank row next prev owner → IsFlank row' next' prev' owner'
flank_eq row row' next next' prev prev' owner owner' a b c d s =
    subst (λ (f : ℕ → Option EdgeList). IsFlank f next' prev' owner') a
    (subst (λ (f : ℕ → Option ℕ). IsFlank row f prev' owner') b
    (subst (λ (f : ℕ → Option ℕ). IsFlank row next f owner') c
    (subst (λ (f : ℕ → Option ℕ). IsFlank row next prev f) d s)))

pub same_sound : (t : Flank) (nodes n1 : Slab NodeSlot) (edges e1 : Slab EdgeSlot) → SameFlank t nodes edges n1 e1 → IsFlankOf t nodes edges → IsFlankOf t n1 e1
same_sound t nodes n1 edges e1 same s =
    flank_eq (row t nodes) (row t n1) (next t edges) (next t e1) (prev t edges) (prev t e1) (owner t edges) (owner t e1)
    (fun_ext (λ v. sym (same.rows v))) (fun_ext (λ e. sym (same.nexts e))) (fun_ext (λ e. sym (same.prevs e))) (fun_ext (λ e. sym (same.owners e))) s

pub same_keys : (t : Flank) (nodes n1 : Slab NodeSlot) (edges e1 : Slab EdgeSlot) → SameFlank t nodes edges n1 e1 → (v : ℕ) → keys t n1 e1 v ≡ keys t nodes edges v
same_keys t nodes n1 edges e1 same v =
    let f : next t e1 ≡ next t edges = fun_ext same.nexts in
    ap (λ (g : ℕ → Option ℕ). row_keys g (row t n1 v)) f ∙ ap (λ (r : Option EdgeList). row_keys (next t edges) r) (same.rows v)

pub same_kept : (s t : Flank) (nodes n1 : Slab NodeSlot) (edges e1 : Slab EdgeSlot) → t ≢ s → Kept row_in s nodes n1 → Kept place_in s edges e1 → SameFlank t nodes edges n1 e1
same_kept s t nodes n1 edges e1 d n e =
    record {
      rows = n.other_flank t d;
      nexts = λ k. ap next_in (e.other_flank t d k);
      prevs = λ k. ap prev_in (e.other_flank t d k);
      owners = λ k. ap node_in (e.other_flank t d k);
    }

pub out_not_in : Outward ≢ Inward
out_not_in h = cc

pub in_not_out : Inward ≢ Outward
in_not_out h = cc

-- only a loose edge came or went
loose_only : {P : Type 0} (p : Option Place → P) (t : Flank) (edges e1 : Slab EdgeSlot) (e : ℕ) → p (place_in t (get edges e)) ≡ p None → p (place_in t (get e1 e)) ≡ p None → ((k : ℕ) → k ≢ e → get e1 k ≡ get edges k) → (k : ℕ) → p (place_in t (get e1 k)) ≡ p (place_in t (get edges k))
loose_only p t edges e1 e was is others k =
    elim (cases_eq k e) [
      | inl same ↦ subst (λ (i : ℕ). p (place_in t (get e1 i)) ≡ p (place_in t (get edges i))) (sym same) (is ∙ sym was)
      | inr n ↦ ap (λ (o : Option EdgeSlot). p (place_in t o)) (others k n)
    ]

loose_place : (t : Flank) → place_in t (Some loose_edge) ≡ Some no_place
loose_place Outward = refl
loose_place Inward = refl

pub same_came : (t : Flank) (nodes : Slab NodeSlot) (edges e1 : Slab EdgeSlot) (e : ℕ) → get edges e ≡ None → get e1 e ≡ Some loose_edge → ((k : ℕ) → k ≢ e → get e1 k ≡ get edges k) → SameFlank t nodes edges nodes e1
same_came t nodes edges e1 e free here others =
    let new : place_in t (get e1 e) ≡ Some no_place = ap (place_in t) here ∙ loose_place t in
    let old : place_in t (get edges e) ≡ None = ap (place_in t) free in
    record {
      rows = λ v. refl;
      nexts = loose_only next_in t edges e1 e (ap next_in old) (ap next_in new) others;
      prevs = loose_only prev_in t edges e1 e (ap prev_in old) (ap prev_in new) others;
      owners = loose_only node_in t edges e1 e (ap node_in old) (ap node_in new) others;
    }

pub same_went : (t : Flank) (nodes : Slab NodeSlot) (edges e1 : Slab EdgeSlot) (e : ℕ) → place_in t (get edges e) ≡ Some no_place → get e1 e ≡ None → ((k : ℕ) → k ≢ e → get e1 k ≡ get edges k) → SameFlank t nodes edges nodes e1
same_went t nodes edges e1 e old free others =
    let new : place_in t (get e1 e) ≡ None = ap (place_in t) free in
    record {
      rows = λ v. refl;
      nexts = loose_only next_in t edges e1 e (ap next_in old) (ap next_in new) others;
      prevs = loose_only prev_in t edges e1 e (ap prev_in old) (ap prev_in new) others;
      owners = loose_only node_in t edges e1 e (ap node_in old) (ap node_in new) others;
    }

-- ---- two moves, one on each side

unmoved : {T X : Type 0} (read : Flank → Option T → Option X) (s : Flank) (old new : Slab T) → Kept read s old new → Unmoved old new
unmoved read s old new k = record { live = k.live; len = k.len; capacity = k.capacity }

pub unmoved_then : {T : Type 0} (a b c : Slab T) → Unmoved a b → Unmoved b c → Unmoved a c
unmoved_then a b c h k = record { live = λ i. k.live i ∙ h.live i; len = k.len ∙ h.len; capacity = k.capacity ∙ h.capacity }

pub moved_both : (e tail head : ℕ) (f : List ℕ → List ℕ) (t h : Option ℕ) (nodes n1 n2 : Slab NodeSlot) (edges e1 e2 : Slab EdgeSlot) → Moved Outward tail e f t nodes edges n1 e1 → Moved Inward head e f h n1 e1 n2 e2 → MovedBoth e tail head f t h nodes edges n2 e2
moved_both e tail head f t h nodes n1 n2 edges e1 e2 a b =
    let outs : SameFlank Outward n1 e1 n2 e2 = same_kept Inward Outward n1 n2 e1 e2 out_not_in b.nodes_kept b.edges_kept in
    let ins : SameFlank Inward nodes edges n1 e1 = same_kept Outward Inward nodes n1 edges e1 in_not_out a.nodes_kept a.edges_kept in
    record {
      flanks = by_flank (λ s. IsFlankOf s n2 e2) (same_sound Outward n1 n2 e1 e2 outs a.sound) b.sound;
      at_tail = same_keys Outward n1 n2 e1 e2 outs tail ∙ a.list;
      at_head = b.list ∙ ap f (same_keys Inward nodes n1 edges e1 ins head);
      other_outs = λ v d. same_keys Outward n1 n2 e1 e2 outs v ∙ a.other_lists v d;
      other_ins = λ v d. b.other_lists v d ∙ same_keys Inward nodes n1 edges e1 ins v;
      tail_is = outs.owners e ∙ a.owned;
      head_is = b.owned;
      others = by_flank (λ s. (k : ℕ) → k ≢ e → owner s e2 k ≡ owner s edges k) (λ k d. outs.owners k ∙ a.others k d) (λ k d. b.others k d ∙ ins.owners k);
      nodes_kept = unmoved_then nodes n1 n2 (unmoved row_in Outward nodes n1 a.nodes_kept) (unmoved row_in Inward n1 n2 b.nodes_kept);
      edges_kept = unmoved_then edges e1 e2 (unmoved place_in Outward edges e1 a.edges_kept) (unmoved place_in Inward e1 e2 b.edges_kept);
    }

-- ---- an edge came

live_both : (n1 n2 : Slab NodeSlot) (e1 e2 : Slab EdgeSlot) → ((v : ℕ) → is_some (get n2 v) ≡ is_some (get n1 v)) → (v : ℕ) → IsNode (graph_of n2 e2) v ↔ IsNode (graph_of n1 e1) v
live_both n1 n2 e1 e2 live v =
    let same : is_some (lists_at (graph_of n2 e2) v) ≡ is_some (lists_at (graph_of n1 e1) v) = node_is n2 e2 v ∙ (live v ∙ sym (node_is n1 e1 v)) in
    (λ h. sym same ∙ h, λ h. same ∙ h)

module _ (nodes n2 : Slab NodeSlot) (edges e1 e2 : Slab EdgeSlot) (e tail head : ℕ) (s : IsSound nodes edges) (free : get edges e ≡ None) (here : get e1 e ≡ Some loose_edge) (others : (k : ℕ) → k ≢ e → get e1 k ≡ get edges k) (len : slab_len e1 ≡ slab_len edges + 1) (room : slab_len edges + 1 ≤ 2 ^ 62) (m : MovedBoth e tail head (λ l. l ++ e ∷ []) (Some tail) (Some head) nodes e1 n2 e2) where
  added_live : (k : ℕ) → k ≢ e → is_some (get e2 k) ≡ is_some (get edges k)
  added_live k d = m.edges_kept.live k ∙ ap is_some (others k d)

  added_owner : (t : Flank) (k : ℕ) → k ≢ e → owner t e2 k ≡ owner t edges k
  added_owner t k d = m.others t k d ∙ ap (λ (o : Option EdgeSlot). node_in (place_in t o)) (others k d)

  pub added_sound : IsSound n2 e2
  added_sound =
      record {
        flanks = m.flanks;
        ends = λ t k live. elim (cases_eq k e) [
          | inl same ↦
              subst (λ (i : ℕ). IsSome (owner t e2 i)) (sym same)
              (by_flank (λ q. IsSome (owner q e2 e)) (some_is (owner Outward e2 e) tail m.tail_is) (some_is (owner Inward e2 e) head m.head_is) t)
          | inr n ↦ ap is_some (added_owner t k n) ∙ s.ends t k (sym (added_live k n) ∙ live)
        ];
        small = let a = m.edges_kept.len in omega (arith, a, len, room);
      }

  added_list : (t : Flank) (v : ℕ) → keys t nodes e1 v ≡ keys t nodes edges v
  added_list t v = same_keys t nodes nodes edges e1 (same_came t nodes edges e1 e free here others) v

  pub added_edge : AddsEdge (graph_of nodes edges) (graph_of n2 e2) e tail head
  added_edge =
      record {
        was_free = ends_are nodes edges e ∙ ap ends_in free;
        ends = ends_are n2 e2 e ∙ ends_from (get e2 e) tail head m.tail_is m.head_is;
        other_edges = λ k d. ends_are n2 e2 k ∙ (ends_same (get e2 k) (get edges k) (added_live k d) (added_owner Outward k d) (added_owner Inward k d) ∙ sym (ends_are nodes edges k));
        at_tail = rw (outs_are n2 e2 tail, outs_are nodes edges tail) (m.at_tail ∙ ap (λ (l : List ℕ). l ++ e ∷ []) (added_list Outward tail));
        at_head = rw (ins_are n2 e2 head, ins_are nodes edges head) (m.at_head ∙ ap (λ (l : List ℕ). l ++ e ∷ []) (added_list Inward head));
        other_outs = λ v d. rw (outs_are n2 e2 v, outs_are nodes edges v) (m.other_outs v d ∙ added_list Outward v);
        other_ins = λ v d. rw (ins_are n2 e2 v, ins_are nodes edges v) (m.other_ins v d ∙ added_list Inward v);
        same_nodes = live_both nodes n2 edges e2 m.nodes_kept.live;
      }

-- ---- an edge was removed

module _ (nodes n1 : Slab NodeSlot) (edges e1 e2 : Slab EdgeSlot) (e tail head : ℕ) (s : IsSound nodes edges) (l : Loosened nodes edges n1 e1 e tail head) (gone : get e2 e ≡ None) (others : (k : ℕ) → k ≢ e → get e2 k ≡ get e1 k) (len : slab_len e2 + 1 ≡ slab_len e1) where
  gone_same : (t : Flank) → SameFlank t n1 e1 n1 e2
  gone_same t = same_went t n1 e1 e2 e (l.loose t) gone others

  gone_live : (k : ℕ) → k ≢ e → is_some (get e2 k) ≡ is_some (get edges k)
  gone_live k d = ap is_some (others k d) ∙ l.moved.edges_kept.live k

  gone_owner : (t : Flank) (k : ℕ) → k ≢ e → owner t e2 k ≡ owner t edges k
  gone_owner t k d = (gone_same t).owners k ∙ l.moved.others t k d

  gone_list : (t : Flank) (v : ℕ) → keys t n1 e2 v ≡ keys t n1 e1 v
  gone_list t v = same_keys t n1 n1 e1 e2 (gone_same t) v

  pub gone_sound : IsSound n1 e2
  gone_sound =
      record {
        flanks = λ t. same_sound t n1 n1 e1 e2 (gone_same t) (l.moved.flanks t);
        ends = λ t k live. elim (cases_eq k e) [
          | inl same ↦ let dead : IsSome (get e2 e) = subst (λ (i : ℕ). IsSome (get e2 i)) same live in let bad = rw gone at dead in cc
          | inr n ↦ ap is_some (gone_owner t k n) ∙ s.ends t k (sym (gone_live k n) ∙ live)
        ];
        small = let a = l.moved.edges_kept.len in omega (arith, a, len, s.small);
      }

  pub gone_edge : RemovesEdge (graph_of nodes edges) (graph_of n1 e2) e tail head
  gone_edge =
      record {
        gone = ends_are n1 e2 e ∙ ap ends_in gone;
        other_edges = λ k d. ends_are n1 e2 k ∙ (ends_same (get e2 k) (get edges k) (gone_live k d) (gone_owner Outward k d) (gone_owner Inward k d) ∙ sym (ends_are nodes edges k));
        at_tail = rw (outs_are n1 e2 tail, outs_are nodes edges tail) (gone_list Outward tail ∙ l.moved.at_tail);
        at_head = rw (ins_are n1 e2 head, ins_are nodes edges head) (gone_list Inward head ∙ l.moved.at_head);
        other_outs = λ v d. rw (outs_are n1 e2 v, outs_are nodes edges v) (gone_list Outward v ∙ l.moved.other_outs v d);
        other_ins = λ v d. rw (ins_are n1 e2 v, ins_are nodes edges v) (gone_list Inward v ∙ l.moved.other_ins v d);
        same_nodes = live_both nodes n1 edges e2 l.moved.nodes_kept.live;
      }

-- ---- an edge was reversed

without_absent : (e : ℕ) (ks : List ℕ) → occurs e ks ≡ 0 → without e ks ≡ ks
without_absent e [] h = refl
without_absent e (x ∷ xs) h =
    let n : x ≢ e = λ i. let o = rw (eq-eqb x e i) at h in omega (arith, o) in
    let t = occurs_tail e x xs in
    rw (eqb_other x e n) (ap (λ (l : List ℕ). x ∷ l) (without_absent e xs (omega (arith, h, t))))

-- an edge stands in no list but its owner's
elsewhere : (t : Flank) (nodes : Slab NodeSlot) (edges : Slab EdgeSlot) (e v u : ℕ) → IsFlankOf t nodes edges → owner t edges e ≡ Some v → u ≢ v → occurs e (keys t nodes edges u) ≡ 0
elsewhere t nodes edges e v u s own d =
    let n : v ≢ u = λ i. d (sym i) in
    s.once u e ∙ rw (own, eqb_other v u n) refl

module _ (nodes n1 n2 : Slab NodeSlot) (edges e1 e2 : Slab EdgeSlot) (e tail head : ℕ) (s : IsSound nodes edges) (from_tail : owner Outward edges e ≡ Some tail) (to_head : owner Inward edges e ≡ Some head) (l : Loosened nodes edges n1 e1 e tail head) (m : MovedBoth e head tail (λ l. l ++ e ∷ []) (Some head) (Some tail) n1 e1 n2 e2) where
  reversed_live : (k : ℕ) → is_some (get e2 k) ≡ is_some (get edges k)
  reversed_live k = m.edges_kept.live k ∙ l.moved.edges_kept.live k

  reversed_owner : (t : Flank) (k : ℕ) → k ≢ e → owner t e2 k ≡ owner t edges k
  reversed_owner t k d = m.others t k d ∙ l.moved.others t k d

  pub reversed_sound : IsSound n2 e2
  reversed_sound =
      record {
        flanks = m.flanks;
        ends = λ t k live. elim (cases_eq k e) [
          | inl same ↦
              subst (λ (i : ℕ). IsSome (owner t e2 i)) (sym same)
              (by_flank (λ q. IsSome (owner q e2 e)) (some_is (owner Outward e2 e) head m.tail_is) (some_is (owner Inward e2 e) tail m.head_is) t)
          | inr n ↦ ap is_some (reversed_owner t k n) ∙ s.ends t k (sym (reversed_live k) ∙ live)
        ];
        small = let a = m.edges_kept.len in let b = l.moved.edges_kept.len in omega (arith, a, b, s.small);
      }

  out_less : (v : ℕ) → keys Outward n1 e1 v ≡ without e (keys Outward nodes edges v)
  out_less v =
      elim (cases_eq v tail) [
        | inl same ↦ subst (λ (i : ℕ). keys Outward n1 e1 i ≡ without e (keys Outward nodes edges i)) (sym same) l.moved.at_tail
        | inr n ↦ l.moved.other_outs v n ∙ sym (without_absent e (keys Outward nodes edges v) (elsewhere Outward nodes edges e tail v (s.flanks Outward) from_tail n))
      ]

  in_less : (v : ℕ) → keys Inward n1 e1 v ≡ without e (keys Inward nodes edges v)
  in_less v =
      elim (cases_eq v head) [
        | inl same ↦ subst (λ (i : ℕ). keys Inward n1 e1 i ≡ without e (keys Inward nodes edges i)) (sym same) l.moved.at_head
        | inr n ↦ l.moved.other_ins v n ∙ sym (without_absent e (keys Inward nodes edges v) (elsewhere Inward nodes edges e head v (s.flanks Inward) to_head n))
      ]

  pub reversed_edge : Reverses (graph_of nodes edges) (graph_of n2 e2) e tail head
  reversed_edge =
      record {
        is_reversed = ends_are n2 e2 e ∙ ends_from (get e2 e) head tail m.tail_is m.head_is;
        other_edges = λ k d. ends_are n2 e2 k ∙ (ends_same (get e2 k) (get edges k) (reversed_live k) (reversed_owner Outward k d) (reversed_owner Inward k d) ∙ sym (ends_are nodes edges k));
        left_tail = λ d. rw (outs_are n2 e2 tail, outs_are nodes edges tail) (m.other_outs tail d ∙ out_less tail);
        left_head = λ d. rw (ins_are n2 e2 head, ins_are nodes edges head) (m.other_ins head (λ i. d (sym i)) ∙ in_less head);
        at_head = rw (outs_are n2 e2 head, outs_are nodes edges head) (m.at_tail ∙ ap (λ (l : List ℕ). l ++ e ∷ []) (out_less head));
        at_tail = rw (ins_are n2 e2 tail, ins_are nodes edges tail) (m.at_head ∙ ap (λ (l : List ℕ). l ++ e ∷ []) (in_less tail));
        other_outs = λ v a b. rw (outs_are n2 e2 v, outs_are nodes edges v) (m.other_outs v b ∙ l.moved.other_outs v a);
        other_ins = λ v a b. rw (ins_are n2 e2 v, ins_are nodes edges v) (m.other_ins v a ∙ l.moved.other_ins v b);
        same_nodes = live_both nodes n2 edges e2 (λ v. m.nodes_kept.live v ∙ l.moved.nodes_kept.live v);
      }

-- ---- a node with no edges came

new_row : (t : Flank) → row_in t (Some empty_node) ≡ Some no_row
new_row Outward = refl
new_row Inward = refl

flank_node : (row row' : ℕ → Option EdgeList) (next prev owner : ℕ → Option ℕ) (v : ℕ) → IsFlank row next prev owner → row v ≡ None → row' v ≡ Some no_row → ((u : ℕ) → u ≢ v → row' u ≡ row u) → IsFlank row' next prev owner
flank_node row row' next prev owner v s free here there =
    record {
      rows = λ u r is. elim (cases_eq u v) [
        | inl e ↦
            let same : no_row ≡ r = some_row_inj no_row r (sym here ∙ (ap row' (sym e) ∙ is)) in
            subst (λ (x : EdgeList). IsRow next prev x) same (record { counted = refl; chain = (refl, refl) })
        | inr n ↦ s.rows u r (sym (there u n) ∙ is)
      ];
      once = λ u e. elim (cases_eq u v) [
        | inl k ↦
            let o = s.once v e in
            let o2 = rw free at o in
            subst (λ (x : ℕ). occurs e (row_keys next (row' x)) ≡ if_end (owner e) x) (sym k) (rw here o2)
        | inr n ↦ rw (there u n) (s.once u e)
      ];
    }

pub node_flank : (t : Flank) (nodes n1 : Slab NodeSlot) (edges : Slab EdgeSlot) (v : ℕ) → get nodes v ≡ None → get n1 v ≡ Some empty_node → ((u : ℕ) → u ≢ v → get n1 u ≡ get nodes u) → IsFlankOf t nodes edges → IsFlankOf t n1 edges
node_flank t nodes n1 edges v free here there s =
    flank_node (row t nodes) (row t n1) (next t edges) (prev t edges) (owner t edges) v s (ap (row_in t) free) (ap (row_in t) here ∙ new_row t) (λ u n. ap (row_in t) (there u n))

pub node_keys : (t : Flank) (nodes n1 : Slab NodeSlot) (edges : Slab EdgeSlot) (v : ℕ) → get nodes v ≡ None → get n1 v ≡ Some empty_node → ((u : ℕ) → u ≢ v → get n1 u ≡ get nodes u) → (u : ℕ) → keys t n1 edges u ≡ keys t nodes edges u
node_keys t nodes n1 edges v free here there u =
    elim (cases_eq u v) [
      | inl e ↦
          subst (λ (i : ℕ). keys t n1 edges i ≡ keys t nodes edges i) (sym e)
          (let a : row t n1 v ≡ Some no_row = ap (row_in t) here ∙ new_row t in
          let b : row t nodes v ≡ None = ap (row_in t) free in
          ap (row_keys (next t edges)) a ∙ sym (ap (row_keys (next t edges)) b))
      | inr n ↦ ap (λ (o : Option NodeSlot). row_keys (next t edges) (row_in t o)) (there u n)
    ]

-- ---- an edge was split

module _ (n0 n1 n2 n3 n4 : Slab NodeSlot) (e0 e1 e2 e3 e4 : Slab EdgeSlot) (e m f tail head : ℕ) (s : IsSound n0 e0) (from_tail : owner Outward e0 e ≡ Some tail) (to_head : owner Inward e0 e ≡ Some head) (node_free : get n0 m ≡ None) (node_here : get n1 m ≡ Some empty_node) (node_others : (u : ℕ) → u ≢ m → get n1 u ≡ get n0 u) (edge_free : get e0 f ≡ None) (edge_here : get e1 f ≡ Some loose_edge) (edge_others : (k : ℕ) → k ≢ f → get e1 k ≡ get e0 k) where
  start_same : (t : Flank) → SameFlank t n1 e0 n1 e1
  start_same t = same_came t n1 e0 e1 f edge_free edge_here edge_others

  pub start_flank : (t : Flank) → IsFlankOf t n1 e1
  start_flank t = same_sound t n1 n1 e0 e1 (start_same t) (node_flank t n0 n1 e0 m node_free node_here node_others (s.flanks t))

  start_keys : (t : Flank) (v : ℕ) → keys t n1 e1 v ≡ keys t n0 e0 v
  start_keys t v = same_keys t n1 n1 e0 e1 (start_same t) v ∙ node_keys t n0 n1 e0 m node_free node_here node_others v

  start_owner : (t : Flank) (k : ℕ) → k ≢ f → owner t e1 k ≡ owner t e0 k
  start_owner t k d = ap (λ (o : Option EdgeSlot). node_in (place_in t o)) (edge_others k d)

  not_far : e ≢ f
  not_far i = let live = owner_live Outward (get e0 e) tail from_tail in let dead : IsSome (get e0 f) = subst (λ (k : ℕ). IsSome (get e0 k)) i live in let bad = rw edge_free at dead in cc

  not_head : head ≢ m
  not_head i = let live = owner_is_node Inward n0 e0 head e (s.flanks Inward) to_head in let dead : IsSome (get n0 m) = subst (λ (k : ℕ). IsSome (get n0 k)) i live in let bad = rw node_free at dead in cc

  nothing : (t : Flank) → keys t n0 e0 m ≡ []
  nothing t = let b : row t n0 m ≡ None = ap (row_in t) node_free in ap (row_keys (next t e0)) b

  pub head_then : owner Inward e1 e ≡ Some head
  head_then = start_owner Inward e not_far ∙ to_head

  pub far_loose : (t : Flank) → owner t e1 f ≡ None
  far_loose t = ap (λ (o : Option EdgeSlot). node_in (place_in t o)) edge_here ∙ ap node_in (loose_place t)

  module _ (h : HandedOver Inward head e f n1 e1 n2 e2) (a : Moved Inward m e (λ l. l ++ e ∷ []) (Some m) n2 e2 n3 e3) where
    first_out : SameFlank Outward n1 e1 n2 e2
    first_out = same_kept Inward Outward n1 n2 e1 e2 out_not_in h.nodes_kept h.edges_kept

    second_out : SameFlank Outward n2 e2 n3 e3
    second_out = same_kept Inward Outward n2 n3 e2 e3 out_not_in a.nodes_kept a.edges_kept

    pub middle_flank : IsFlankOf Outward n3 e3
    middle_flank = same_sound Outward n2 n3 e2 e3 second_out (same_sound Outward n1 n2 e1 e2 first_out (start_flank Outward))

    middle_keys : (v : ℕ) → keys Outward n3 e3 v ≡ keys Outward n0 e0 v
    middle_keys v = same_keys Outward n2 n3 e2 e3 second_out v ∙ (same_keys Outward n1 n2 e1 e2 first_out v ∙ start_keys Outward v)

    middle_owner : (k : ℕ) → owner Outward e3 k ≡ owner Outward e1 k
    middle_owner k = second_out.owners k ∙ first_out.owners k

    pub middle_loose : owner Outward e3 f ≡ None
    middle_loose = middle_owner f ∙ far_loose Outward

    module _ (len : slab_len e1 ≡ slab_len e0 + 1) (room : slab_len e0 + 1 ≤ 2 ^ 62) (b : Moved Outward m f (λ l. l ++ f ∷ []) (Some m) n3 e3 n4 e4) where
      last_in : SameFlank Inward n3 e3 n4 e4
      last_in = same_kept Outward Inward n3 n4 e3 e4 in_not_out b.nodes_kept b.edges_kept

      split_live : (k : ℕ) → is_some (get e4 k) ≡ is_some (get e1 k)
      split_live k = b.edges_kept.live k ∙ (a.edges_kept.live k ∙ h.edges_kept.live k)

      node_live4 : (v : ℕ) → is_some (get n4 v) ≡ is_some (get n1 v)
      node_live4 v = b.nodes_kept.live v ∙ (a.nodes_kept.live v ∙ h.nodes_kept.live v)

      near_tail : owner Outward e4 e ≡ Some tail
      near_tail = b.others e not_far ∙ (middle_owner e ∙ (start_owner Outward e not_far ∙ from_tail))

      near_head : owner Inward e4 e ≡ Some m
      near_head = last_in.owners e ∙ a.owned

      far_head : owner Inward e4 f ≡ Some head
      far_head = last_in.owners f ∙ (a.others f (λ i. not_far (sym i)) ∙ h.owned)

      split_owner : (t : Flank) (k : ℕ) → k ≢ e → k ≢ f → owner t e4 k ≡ owner t e0 k
      split_owner t k d q =
          by_flank (λ t. owner t e4 k ≡ owner t e0 k)
          (b.others k q ∙ (middle_owner k ∙ start_owner Outward k q))
          (last_in.owners k ∙ (a.others k d ∙ (h.others k d q ∙ start_owner Inward k q))) t

      pub split_sound : IsSound n4 e4
      split_sound =
          record {
            flanks = by_flank (λ t. IsFlankOf t n4 e4) b.sound (same_sound Inward n3 n4 e3 e4 last_in a.sound);
            ends = λ t k live. elim (cases_eq k e) [
              | inl same ↦
                  subst (λ (i : ℕ). IsSome (owner t e4 i)) (sym same)
                  (by_flank (λ q. IsSome (owner q e4 e)) (some_is (owner Outward e4 e) tail near_tail) (some_is (owner Inward e4 e) m near_head) t)
              | inr d ↦
                  elim (cases_eq k f) [
                    | inl same ↦
                        subst (λ (i : ℕ). IsSome (owner t e4 i)) (sym same)
                        (by_flank (λ q. IsSome (owner q e4 f)) (some_is (owner Outward e4 f) m b.owned) (some_is (owner Inward e4 f) head far_head) t)
                    | inr q ↦ ap is_some (split_owner t k d q) ∙ s.ends t k (ap is_some (sym (edge_others k q)) ∙ (sym (split_live k) ∙ live))
                  ]
            ];
            small = let x = b.edges_kept.len in let y = a.edges_kept.len in let z = h.edges_kept.len in omega (arith, x, y, z, len, room);
          }

      out_at_node : keys Outward n4 e4 m ≡ f ∷ []
      out_at_node = b.list ∙ ap (λ (l : List ℕ). l ++ f ∷ []) (middle_keys m ∙ nothing Outward)

      in_at_node : keys Inward n4 e4 m ≡ e ∷ []
      in_at_node =
          same_keys Inward n3 n4 e3 e4 last_in m
          ∙ (a.list ∙ ap (λ (l : List ℕ). l ++ e ∷ []) (h.other_lists m (λ i. not_head (sym i)) ∙ (start_keys Inward m ∙ nothing Inward)))

      node_there : IsNode (graph_of n4 e4) m
      node_there = node_is n4 e4 m ∙ (node_live4 m ∙ some_is (get n1 m) empty_node node_here)

      same_node : (v : ℕ) → v ≢ m → is_some (lists_at (graph_of n4 e4) v) ≡ is_some (lists_at (graph_of n0 e0) v)
      same_node v d = node_is n4 e4 v ∙ (node_live4 v ∙ (ap is_some (node_others v d) ∙ sym (node_is n0 e0 v)))

      pub split_edge : Splits (graph_of n0 e0) (graph_of n4 e4) e m f tail head
      split_edge =
          record {
            node_was_free = lists_are n0 e0 m ∙ rw node_free refl;
            edge_was_free = ends_are n0 e0 f ∙ ap ends_in edge_free;
            near = ends_are n4 e4 e ∙ ends_from (get e4 e) tail m near_tail near_head;
            far = ends_are n4 e4 f ∙ ends_from (get e4 f) m head b.owned far_head;
            other_edges = λ k d q. ends_are n4 e4 k ∙ (ends_same (get e4 k) (get e0 k) (split_live k ∙ ap is_some (edge_others k q)) (split_owner Outward k d q) (split_owner Inward k d q) ∙ sym (ends_are n0 e0 k));
            at_node = lists_from (graph_of n4 e4) m node_there ∙ rw (outs_are n4 e4 m, ins_are n4 e4 m, out_at_node, in_at_node) refl;
            at_head = rw (ins_are n4 e4 head, ins_are n0 e0 head) (same_keys Inward n3 n4 e3 e4 last_in head ∙ (a.other_lists head not_head ∙ (h.list ∙ ap (λ (l : List ℕ). map (renamed e f) l) (start_keys Inward head))));
            other_outs = λ v d. rw (outs_are n4 e4 v, outs_are n0 e0 v) (b.other_lists v d ∙ middle_keys v);
            other_ins = λ v d q. rw (ins_are n4 e4 v, ins_are n0 e0 v) (same_keys Inward n3 n4 e3 e4 last_in v ∙ (a.other_lists v d ∙ (h.other_lists v q ∙ start_keys Inward v)));
            same_nodes = λ v d. (λ x. sym (same_node v d) ∙ x, λ x. same_node v d ∙ x);
          }

pub node_sound : (nodes n1 : Slab NodeSlot) (edges : Slab EdgeSlot) (v : ℕ) → get nodes v ≡ None → get n1 v ≡ Some empty_node → ((u : ℕ) → u ≢ v → get n1 u ≡ get nodes u) → IsSound nodes edges → IsSound n1 edges
node_sound nodes n1 edges v free here there s =
    record { flanks = λ t. node_flank t nodes n1 edges v free here there (s.flanks t); ends = s.ends; small = s.small }

pub node_added : (nodes n1 : Slab NodeSlot) (edges : Slab EdgeSlot) (v : ℕ) → get nodes v ≡ None → get n1 v ≡ Some empty_node → ((u : ℕ) → u ≢ v → get n1 u ≡ get nodes u) → AddsNode (graph_of nodes edges) (graph_of n1 edges) v
node_added nodes n1 edges v free here there =
    record {
      was_free = lists_are nodes edges v ∙ ap (lists_in edges) free;
      alone = lists_are n1 edges v ∙ ap (lists_in edges) here;
      other_nodes = λ k n. lists_are n1 edges k ∙ (ap (lists_in edges) (there k n) ∙ sym (lists_are nodes edges k));
      same_edges = λ e. refl;
    }
