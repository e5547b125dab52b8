-- A node's edges go one after the other, and then the node.
use Rattle.std.proofs.Common.{◌≡◌, ◌≢◌, ◌||◌, ℕ, ◌<◌, eqb, eq-eqb, cond, not, Bool, true, false, List, [], ◌∷◌, length, filter, Option, Some, None, IsSome, is_some, arith, refl, sym, ap, ◌∙◌, subst, inl, inr, ⊎_elim}
use Rattle.std.proofs.lemmas.Bool.{cases_eq, cases_Bool, or_left, or_right}
use Rattle.slab.specs.Slab.{Slab, get}
use Rattle.graph_arena.specs.declared.slots.Flank.{Flank}
use Rattle.graph_arena.specs.declared.slots.Flank.TheVariants.{Outward, Inward}
use Rattle.graph_arena.specs.declared.slots.EdgeList.{EdgeList}
use Rattle.graph_arena.specs.declared.slots.NodeSlot.{NodeSlot}
use Rattle.graph_arena.specs.declared.slots.EdgeSlot.{EdgeSlot}
use Rattle.graph_arena.specs.Graph.{Graph, Ends, lists_at, ends_at, out_list, in_list, IsEdge, occurs, if_end, tail_in, head_in}
use Rattle.graph_arena.specs.Changes.{RemovesEdge, RemovesNode, Peels, touches, without}
use Rattle.graph_arena.specs.Chain.{row_keys, follow, IsChain, IsFlank}
use Rattle.graph_arena.specs.Flanks.{row_in, row, next, prev, owner, keys, IsFlankOf, IsSound, graph_of}
use Rattle.graph_arena.proofs.Chains.{eqb_other, occurs_tail, occurs_head, member_owned}
use Rattle.graph_arena.proofs.Unlinking.{first_in, length-without}
use Rattle.graph_arena.proofs.Views.{lists_are, outs_are, ins_are, node_is, tail_is, head_is, incidence_of}
use Rattle.graph_arena.proofs.Whole.{by_flank}

-- ---- lists

pub filter_without : (p : ℕ → Bool) (e : ℕ) (xs : List ℕ) → p e ≡ false → filter p (without e xs) ≡ filter p xs
filter_without p e [] h = refl
filter_without p e (x ∷ xs) h =
    elim (cases_eq x e) [
      | inl s ↦ let q : p x ≡ false = ap p s ∙ h in rw (eq-eqb x e s, q) refl
      | inr n ↦ let i = filter_without p e xs h in rw (eqb_other x e n) (ap (λ (l : List ℕ). cond (p x) (x ∷ l) l) i)
    ]

pub filter_stronger : (p q : ℕ → Bool) (xs : List ℕ) → ((e : ℕ) → q e ≡ false → p e ≡ false) → filter p (filter q xs) ≡ filter p xs
filter_stronger p q [] h = refl
filter_stronger p q (x ∷ xs) h =
    let i = filter_stronger p q xs h in
    elim (cases_Bool (q x)) [
      | inl t ↦ rw t (ap (λ (l : List ℕ). cond (p x) (x ∷ l) l) i)
      | inr f ↦ rw (f, h x f) i
    ]

filter_all : (p : ℕ → Bool) (xs : List ℕ) → ((e : ℕ) → 0 < occurs e xs → p e ≡ true) → filter p xs ≡ xs
filter_all p [] h = refl
filter_all p (x ∷ xs) h =
    let i = filter_all p xs (λ e o. h e (let t = occurs_tail e x xs in omega (arith, o, t))) in
    rw (h x (occurs_head x xs)) (ap (λ (l : List ℕ). x ∷ l) i)

pub empty_from : (xs : List ℕ) → ((e : ℕ) → occurs e xs ≡ 0) → xs ≡ []
empty_from [] h = refl
empty_from (x ∷ xs) h = absurd (omega (arith, h x, occurs_head x xs))

-- ---- one more edge went

pub peel_more : (g h k : Graph) (v e tail head : ℕ) → Peels g h v → ends_at h e ≡ Some (record { tail = tail; head = head }) → touches (ends_at h e) v ≡ true → RemovesEdge h k e tail head → Peels g k v
peel_more g h k v e tail head p is at r =
    let was : touches (ends_at g e) v ≡ true =
    ⊎_elim (λ (s : ends_at h e ≡ ends_at g e). ap (λ (o : Option Ends). touches o v) (sym s) ∙ at)
    (λ (b : (ends_at h e ≡ None) × (touches (ends_at g e) v ≡ true)). b.1) (p.edges e) in
    let off : not (touches (ends_at g e) v) ≡ false = rw was refl in
    let keep : ℕ → Bool = λ i. not (touches (ends_at g i) v) in
    record {
      edges = λ i. elim (cases_eq i e) [
        | inl s ↦ inr (subst (λ (j : ℕ). (ends_at k j ≡ None) × (touches (ends_at g j) v ≡ true)) (sym s) (r.gone, was))
        | inr n ↦
            let o = r.other_edges i n in
            ⊎_elim (λ (s : ends_at h i ≡ ends_at g i). inl (o ∙ s)) (λ (b : (ends_at h i ≡ None) × (touches (ends_at g i) v ≡ true)). inr (o ∙ b.0, b.1)) (p.edges i)
      ];
      outs = λ u. elim (cases_eq u tail) [
        | inl s ↦
            subst (λ (j : ℕ). filter keep (out_list k j) ≡ filter keep (out_list g j)) (sym s)
            (ap (λ (l : List ℕ). filter keep l) r.at_tail ∙ (filter_without keep e (out_list h tail) off ∙ p.outs tail))
        | inr n ↦ ap (λ (l : List ℕ). filter keep l) (r.other_outs u n) ∙ p.outs u
      ];
      ins = λ u. elim (cases_eq u head) [
        | inl s ↦
            subst (λ (j : ℕ). filter keep (in_list k j) ≡ filter keep (in_list g j)) (sym s)
            (ap (λ (l : List ℕ). filter keep l) r.at_head ∙ (filter_without keep e (in_list h head) off ∙ p.ins head))
        | inr n ↦ ap (λ (l : List ℕ). filter keep l) (r.other_ins u n) ∙ p.ins u
      ];
      same_nodes = λ u. (λ x. (p.same_nodes u).0 ((r.same_nodes u).0 x), λ x. (r.same_nodes u).1 ((p.same_nodes u).1 x));
    }

pub peels_then : (g h k : Graph) (v : ℕ) → Peels g h v → Peels h k v → Peels g k v
peels_then g h k v p q =
    let keep : ℕ → Bool = λ i. not (touches (ends_at g i) v) in
    let later : ℕ → Bool = λ i. not (touches (ends_at h i) v) in
    let weaker : (e : ℕ) → later e ≡ false → keep e ≡ false =
    λ e f.
    ⊎_elim (λ (s : ends_at h e ≡ ends_at g e). ap (λ (o : Option Ends). not (touches o v)) (sym s) ∙ f)
    (λ (b : (ends_at h e ≡ None) × (touches (ends_at g e) v ≡ true)). rw b.1 refl) (p.edges e)
    in
    record {
      edges = λ i. ⊎_elim
          (λ (s : ends_at k i ≡ ends_at h i). ⊎_elim (λ (z : ends_at h i ≡ ends_at g i). inl (s ∙ z)) (λ (b : (ends_at h i ≡ None) × (touches (ends_at g i) v ≡ true)). inr (s ∙ b.0, b.1)) (p.edges i))
          (λ (c : (ends_at k i ≡ None) × (touches (ends_at h i) v ≡ true)). ⊎_elim (λ (z : ends_at h i ≡ ends_at g i). inr (c.0, ap (λ (o : Option Ends). touches o v) (sym z) ∙ c.1)) (λ (b : (ends_at h i ≡ None) × (touches (ends_at g i) v ≡ true)). inr (c.0, b.1)) (p.edges i))
          (q.edges i);
      outs = λ u.
          sym (filter_stronger keep later (out_list k u) weaker) ∙ (ap (λ (l : List ℕ). filter keep l) (q.outs u) ∙ (filter_stronger keep later (out_list h u) weaker ∙ p.outs u));
      ins = λ u.
          sym (filter_stronger keep later (in_list k u) weaker) ∙ (ap (λ (l : List ℕ). filter keep l) (q.ins u) ∙ (filter_stronger keep later (in_list h u) weaker ∙ p.ins u));
      same_nodes = λ u. (λ x. (p.same_nodes u).0 ((q.same_nodes u).0 x), λ x. (q.same_nodes u).1 ((p.same_nodes u).1 x));
    }

-- ---- the first edge of a list

pub first_owned : (s : Flank) (nodes : Slab NodeSlot) (edges : Slab EdgeSlot) (v k : ℕ) (r : EdgeList) → IsFlankOf s nodes edges → row s nodes v ≡ Some r → r.first ≡ Some k → owner s edges k ≡ Some v
first_owned s nodes edges v k r flank is f =
    let m = first_in (next s edges) (prev s edges) None r.first (follow (next s edges) r.count r.first) r.last k (flank.rows v r is).chain f in
    member_owned (row s nodes) (next s edges) (prev s edges) (owner s edges) v k flank (rw is m)

no_first : (next prev : ℕ → Option ℕ) (before at : Option ℕ) (ks : List ℕ) (last : Option ℕ) → IsChain next prev before at ks last → at ≡ None → ks ≡ []
no_first next prev before at [] last c h = refl
no_first next prev before at (k ∷ ks) last c h = let bad : None ≡ Some k = sym h ∙ c.0 in cc

-- an edge in a list of the node touches it
pub owner_touches : (s : Flank) (nodes : Slab NodeSlot) (edges : Slab EdgeSlot) (v e : ℕ) (x : Ends) → IsSound nodes edges → ends_at (graph_of nodes edges) e ≡ Some x → owner s edges e ≡ Some v → touches (ends_at (graph_of nodes edges) e) v ≡ true
owner_touches s nodes edges v e x sound is own =
    rw is (by_flank (λ t. owner t edges e ≡ Some v → (eqb x.tail v || eqb x.head v) ≡ true)
    (λ o. or_left (eqb x.tail v) (eqb x.head v) (eq-eqb x.tail v (let q : Some x.tail ≡ Some v = sym (sym (tail_is nodes edges e sound) ∙ ap tail_in is) ∙ o in cc)))
    (λ o. or_right (eqb x.tail v) (eqb x.head v) (eq-eqb x.head v (let q : Some x.head ≡ Some v = sym (sym (head_is nodes edges e sound) ∙ ap head_in is) ∙ o in cc)))
    s own)

shorter : (e : ℕ) (xs ys : List ℕ) → ys ≡ without e xs → 0 < occurs e xs → length ys < length xs
shorter e xs ys is h = let l = length-without e xs h in rw is (omega (arith, l))

-- the list that the edge stood in is shorter
pub fewer_keys : (s : Flank) (nodes n1 : Slab NodeSlot) (edges e1 : Slab EdgeSlot) (v e : ℕ) (x : Ends) → IsSound nodes edges → ends_at (graph_of nodes edges) e ≡ Some x → owner s edges e ≡ Some v → RemovesEdge (graph_of nodes edges) (graph_of n1 e1) e x.tail x.head → length (keys s n1 e1 v) < length (keys s nodes edges v)
fewer_keys s nodes n1 edges e1 v e x sound is own r =
    let there : 0 < occurs e (keys s nodes edges v) = let o = (sound.flanks s).once v e in let o2 = rw (own, eq-eqb v v refl) at o in omega (arith, o2) in
    by_flank (λ t. owner t edges e ≡ Some v → 0 < occurs e (keys t nodes edges v) → length (keys t n1 e1 v) < length (keys t nodes edges v))
    (λ o h.
    let q : x.tail ≡ v = (let q : Some x.tail ≡ Some v = sym (sym (tail_is nodes edges e sound) ∙ ap tail_in is) ∙ o in cc) in
    let l : out_list (graph_of n1 e1) v ≡ without e (out_list (graph_of nodes edges) v) = subst (λ (j : ℕ). out_list (graph_of n1 e1) j ≡ without e (out_list (graph_of nodes edges) j)) q r.at_tail in
    shorter e (keys Outward nodes edges v) (keys Outward n1 e1 v) (sym (outs_are n1 e1 v) ∙ (l ∙ ap (without e) (outs_are nodes edges v))) h)
    (λ o h.
    let q : x.head ≡ v = (let q : Some x.head ≡ Some v = sym (sym (head_is nodes edges e sound) ∙ ap head_in is) ∙ o in cc) in
    let l : in_list (graph_of n1 e1) v ≡ without e (in_list (graph_of nodes edges) v) = subst (λ (j : ℕ). in_list (graph_of n1 e1) j ≡ without e (in_list (graph_of nodes edges) j)) q r.at_head in
    shorter e (keys Inward nodes edges v) (keys Inward n1 e1 v) (sym (ins_are n1 e1 v) ∙ (l ∙ ap (without e) (ins_are nodes edges v))) h)
    s own there

-- ---- a node with no edges goes

flank_drop : (row row' : ℕ → Option EdgeList) (next prev owner : ℕ → Option ℕ) (v : ℕ) → IsFlank row next prev owner → row_keys next (row v) ≡ [] → row' v ≡ None → ((u : ℕ) → u ≢ v → row' u ≡ row u) → IsFlank row' next prev owner
flank_drop row row' next prev owner v s empty gone there =
    record {
      rows = λ u r is. elim (cases_eq u v) [
        | inl e ↦ let bad : None ≡ Some r = sym gone ∙ (ap row' (sym e) ∙ is) in cc
        | inr n ↦ s.rows u r (sym (there u n) ∙ is)
      ];
      once = λ u e. elim (cases_eq u v) [
        | inl k ↦
            let o = s.once v e in
            let o2 = rw empty at o in
            subst (λ (x : ℕ). occurs e (row_keys next (row' x)) ≡ if_end (owner e) x) (sym k) (rw gone o2)
        | inr n ↦ rw (there u n) (s.once u e)
      ];
    }

not_true : (b : Bool) → (b ≡ true → false ≡ true) → b ≡ false
not_true true h = sym (h refl)
not_true false h = refl

module _ (n0 n1 n2 n3 : Slab NodeSlot) (e0 e1 e2 : Slab EdgeSlot) (v : ℕ) (s1 : IsSound n1 e1) (s2 : IsSound n2 e2) (p : Peels (graph_of n0 e0) (graph_of n1 e1) v) (q : Peels (graph_of n1 e1) (graph_of n2 e2) v) (no_outs : keys Outward n1 e1 v ≡ []) (no_ins : keys Inward n2 e2 v ≡ []) (gone : get n3 v ≡ None) (others : (u : ℕ) → u ≢ v → get n3 u ≡ get n2 u) where
  all_peeled : Peels (graph_of n0 e0) (graph_of n2 e2) v
  all_peeled = peels_then (graph_of n0 e0) (graph_of n1 e1) (graph_of n2 e2) v p q

  no_out_then : (e : ℕ) → if_end (owner Outward e1 e) v ≡ 0
  no_out_then e = let o = (s1.flanks Outward).once v e in let o2 = rw no_outs at o in sym o2

  no_tail : (e : ℕ) → if_end (tail_in (ends_at (graph_of n2 e2) e)) v ≡ 0
  no_tail e =
      ⊎_elim (λ (s : ends_at (graph_of n2 e2) e ≡ ends_at (graph_of n1 e1) e). ap (λ (o : Option Ends). if_end (tail_in o) v) s ∙ (ap (λ (o : Option ℕ). if_end o v) (tail_is n1 e1 e s1) ∙ no_out_then e))
      (λ (b : (ends_at (graph_of n2 e2) e ≡ None) × (touches (ends_at (graph_of n1 e1) e) v ≡ true)). ap (λ (o : Option Ends). if_end (tail_in o) v) b.0) (q.edges e)

  no_head : (e : ℕ) → if_end (head_in (ends_at (graph_of n2 e2) e)) v ≡ 0
  no_head e = ap (λ (o : Option ℕ). if_end o v) (head_is n2 e2 e s2) ∙ (let o = (s2.flanks Inward).once v e in let o2 = rw no_ins at o in sym o2)

  no_outs2 : keys Outward n2 e2 v ≡ []
  no_outs2 = empty_from (keys Outward n2 e2 v) (λ e. (s2.flanks Outward).once v e ∙ (ap (λ (o : Option ℕ). if_end o v) (sym (tail_is n2 e2 e s2)) ∙ no_tail e))

  off : (e : ℕ) (o : Option Ends) → if_end (tail_in o) v ≡ 0 → if_end (head_in o) v ≡ 0 → touches o v ≡ false
  off e None a b = refl
  off e (Some x) a b =
      let na : x.tail ≢ v = λ i. let z = rw (eq-eqb x.tail v i) at a in omega (arith, z) in
      let nb : x.head ≢ v = λ i. let z = rw (eq-eqb x.head v i) at b in omega (arith, z) in
      rw (eqb_other x.tail v na, eqb_other x.head v nb) refl

  untouched : (e : ℕ) → touches (ends_at (graph_of n2 e2) e) v ≡ false
  untouched e = off e (ends_at (graph_of n2 e2) e) (no_tail e) (no_head e)

  pub dropped_sound : IsSound n3 e2
  dropped_sound =
      record {
        flanks = λ t. flank_drop (row t n2) (row t n3) (next t e2) (prev t e2) (owner t e2) v (s2.flanks t) (by_flank (λ z. keys z n2 e2 v ≡ []) no_outs2 no_ins t) (ap (row_in t) gone) (λ u d. ap (row_in t) (others u d));
        ends = s2.ends;
        small = s2.small;
      }

  -- what is left of an edge that is live is what it was
  left : (e : ℕ) → IsEdge (graph_of n2 e2) e → not (touches (ends_at (graph_of n0 e0) e) v) ≡ true
  left e live =
      ⊎_elim (λ (s : ends_at (graph_of n2 e2) e ≡ ends_at (graph_of n0 e0) e). let t = ap (λ (o : Option Ends). touches o v) (sym s) ∙ untouched e in rw t refl)
      (λ (b : (ends_at (graph_of n2 e2) e ≡ None) × (touches (ends_at (graph_of n0 e0) e) v ≡ true)). let z = rw b.0 at live in cc) (all_peeled.edges e)

  live_by : (o : Option Ends) (u : ℕ) → 0 < if_end (tail_in o) u → IsSome o
  live_by None u h = absurd (omega arith)
  live_by (Some x) u h = refl

  live_by_head : (o : Option Ends) (u : ℕ) → 0 < if_end (head_in o) u → IsSome o
  live_by_head None u h = absurd (omega arith)
  live_by_head (Some x) u h = refl

  same_ends : (e : ℕ) → ends_at (graph_of n3 e2) e ≡ ends_at (graph_of n2 e2) e
  same_ends e = refl

  same_row : (t : Flank) (u : ℕ) → u ≢ v → keys t n3 e2 u ≡ keys t n2 e2 u
  same_row t u d = ap (λ (o : Option NodeSlot). row_keys (next t e2) (row_in t o)) (others u d)

  same_node : (u : ℕ) → u ≢ v → is_some (lists_at (graph_of n3 e2) u) ≡ is_some (lists_at (graph_of n2 e2) u)
  same_node u d = node_is n3 e2 u ∙ (ap is_some (others u d) ∙ sym (node_is n2 e2 u))

  pub dropped_node : RemovesNode (graph_of n0 e0) (graph_of n3 e2) v
  dropped_node =
      let keep : ℕ → Bool = λ i. not (touches (ends_at (graph_of n0 e0) i) v) in
      let i2 = incidence_of n2 e2 s2 in
      record {
        gone = lists_are n3 e2 v ∙ rw gone refl;
        taken_edges = λ e t. same_ends e ∙ ⊎_elim (λ (s : ends_at (graph_of n2 e2) e ≡ ends_at (graph_of n0 e0) e). let z : false ≡ true = sym (untouched e) ∙ (ap (λ (o : Option Ends). touches o v) s ∙ t) in absurd cc)
            (λ (b : (ends_at (graph_of n2 e2) e ≡ None) × (touches (ends_at (graph_of n0 e0) e) v ≡ true)). b.0) (all_peeled.edges e);
        other_edges = λ e f. same_ends e ∙ ⊎_elim (λ (s : ends_at (graph_of n2 e2) e ≡ ends_at (graph_of n0 e0) e). s)
            (λ (b : (ends_at (graph_of n2 e2) e ≡ None) × (touches (ends_at (graph_of n0 e0) e) v ≡ true)). let z : false ≡ true = sym f ∙ b.1 in absurd cc) (all_peeled.edges e);
        outs = λ u d.
            let a : out_list (graph_of n3 e2) u ≡ out_list (graph_of n2 e2) u = outs_are n3 e2 u ∙ (same_row Outward u d ∙ sym (outs_are n2 e2 u)) in
            a ∙ (sym (filter_all keep (out_list (graph_of n2 e2) u) (λ e h. left e (live_by (ends_at (graph_of n2 e2) e) u (let o = i2.outs u e in omega (arith, o, h))))) ∙ all_peeled.outs u);
        ins = λ u d.
            let a : in_list (graph_of n3 e2) u ≡ in_list (graph_of n2 e2) u = ins_are n3 e2 u ∙ (same_row Inward u d ∙ sym (ins_are n2 e2 u)) in
            a ∙ (sym (filter_all keep (in_list (graph_of n2 e2) u) (λ e h. left e (live_by_head (ends_at (graph_of n2 e2) e) u (let o = i2.ins u e in omega (arith, o, h))))) ∙ all_peeled.ins u);
        same_nodes = λ u d. (λ x. (all_peeled.same_nodes u).0 (sym (same_node u d) ∙ x), λ x. same_node u d ∙ (all_peeled.same_nodes u).1 x);
      }
