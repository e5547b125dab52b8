-- What holds of a tree that hangs from node 0.
use Rattle.std.proofs.Common.{◌≡◌, ◌≢◌, ℕ, zero, suc, ◌<◌, eqb, eq-eqb, cond, Bool, true, false, ◌⊎◌, List, length, set, get_or, arith, refl, sym, ap, subst, ◌∙◌, inl, inr}
use Rattle.std.proofs.lemmas.Bool.{cases_eq, cases_Bool}
use Rattle.std.proofs.lemmas.Bool.Decides.{nat_tests}
use Rattle.std.proofs.lemmas.List.{get_or-set_other}
use Rattle.network_laws.specs.declared.network.NetEdge.{NetEdge}
use Rattle.network_laws.specs.Network.{edge_at, EndsBelow}
use Rattle.network_laws.specs.Linked.{is_marked, Linked}
use Rattle.network_laws.proofs.Linking.{link_stay, link_back, link_join, link_one}
use Rattle.net_simplex.specs.Tree.{IsSpanningTree, IsCut}
use Rattle.net_simplex.specs.Rooted.{beyond, above, HangsBy, IsRooted, all_held}

pub ne_eqb : (m n : ℕ) → m ≢ n → eqb m n ≡ false
ne_eqb m n h = grind (arith, nat_tests, h)

pub beyond_is_end : (e : NetEdge) (v : ℕ) → (beyond e v ≡ e.tail) ⊎ (beyond e v ≡ e.head)
beyond_is_end e v =
    elim (cases_Bool (eqb e.tail v)) [
      | inl t ↦ inr (ap (λ b. cond b e.head e.tail) t)
      | inr t ↦ inl (ap (λ b. cond b e.head e.tail) t)
    ]

module _ (nodes : ℕ) (edges : List NetEdge) (tree : List Bool) (order place parent : List ℕ) (r : IsRooted nodes edges tree order place parent) where
  pub root_place : get_or place 0 0 ≡ 0
  root_place = subst (λ x. get_or place x 0 ≡ 0) r.root_first ((r.in_order 0 r.begun).1)

  pub is_root : (v : ℕ) → v < nodes → get_or place v 0 ≡ 0 → v ≡ 0
  is_root v l e = sym (r.placed v l refl).1 ∙ (ap (λ p. get_or order p 0) e ∙ r.root_first)

  pub not_root : (v : ℕ) → v < nodes → v ≢ 0 → 0 < get_or place v 0
  not_root v l n = elim (cases_eq (get_or place v 0) 0) [
    | inl e ↦ absurd (n (is_root v l e))
    | inr ne ↦ omega (arith, ne)
  ]

  pub same_place : (u v : ℕ) → u < nodes → v < nodes → get_or place u 0 ≡ get_or place v 0 → u ≡ v
  same_place u v lu lv e = sym (r.placed u lu refl).1 ∙ (ap (λ p. get_or order p 0) e ∙ (r.placed v lv refl).1)

  pub above_there : (v : ℕ) → EndsBelow nodes edges → v < nodes → 0 < get_or place v 0 → above edges parent v < nodes
  above_there v ends l b =
      let k = get_or parent v 0 in
      let h = r.hangs v l refl b in
      let e = ends k h.is_there in
      elim (beyond_is_end (edge_at edges k) v) [
        | inl x ↦ subst (λ y. y < nodes) (sym x) e.0
        | inr x ↦ subst (λ y. y < nodes) (sym x) e.1
      ]

  pub above_earlier : (v : ℕ) → v < nodes → 0 < get_or place v 0 → get_or place (above edges parent v) 0 < get_or place v 0
  above_earlier v l b = (r.hangs v l refl b).earlier

-- an edge's ends, each seen from the other
pub from_tail : (e : NetEdge) (v : ℕ) → e.tail ≡ v → beyond e v ≡ e.head
from_tail e v h = ap (λ b. cond b e.head e.tail) (eq-eqb e.tail v h)

pub from_head : (e : NetEdge) (v : ℕ) → e.tail ≢ v → beyond e v ≡ e.tail
from_head e v h = ap (λ b. cond b e.head e.tail) (ne_eqb e.tail v h)

-- the other end sees the one
pub beyond_back : (e : NetEdge) (v : ℕ) → ((e.tail ≡ v) ⊎ (e.head ≡ v)) → beyond e v ≢ v → beyond e (beyond e v) ≡ v
beyond_back e v at ne =
    elim (cases_eq e.tail v) [
      | inl t ↦
          let b = from_tail e v t in
          let q : e.tail ≢ e.head = λ s. ne (b ∙ (sym s ∙ t)) in
          ap (beyond e) b ∙ (from_head e e.head q ∙ t)
      | inr nt ↦ elim at [
        | inl t ↦ absurd (nt t)
        | inr t ↦ ap (beyond e) (from_head e v nt) ∙ (from_tail e e.tail refl ∙ t)
      ]
    ]

-- a set that holds both ends or none
pub across : (inside : ℕ → Bool) (e : NetEdge) (v : ℕ) → ((e.tail ≡ v) ⊎ (e.head ≡ v)) → inside e.tail ≡ inside e.head → inside v ≡ inside (beyond e v)
across inside e v at h =
    elim (cases_eq e.tail v) [
      | inl t ↦ ap inside (sym t) ∙ (h ∙ ap inside (sym (from_tail e v t)))
      | inr nt ↦ elim at [
        | inl t ↦ absurd (nt t)
        | inr t ↦ ap inside (sym t) ∙ (sym h ∙ ap inside (sym (from_head e v nt)))
      ]
    ]

pub along : (inside : ℕ → Bool) (e : NetEdge) (v : ℕ) → ((e.tail ≡ v) ⊎ (e.head ≡ v)) → inside v ≡ inside (beyond e v) → inside e.tail ≡ inside e.head
along inside e v at h =
    elim (cases_eq e.tail v) [
      | inl t ↦ ap inside t ∙ (h ∙ ap inside (from_tail e v t))
      | inr nt ↦ elim at [
        | inl t ↦ absurd (nt t)
        | inr t ↦ sym (ap inside t ∙ (h ∙ ap inside (from_head e v nt)))
      ]
    ]

module _ (nodes : ℕ) (edges : List NetEdge) (tree : List Bool) (order place parent : List ℕ) (r : IsRooted nodes edges tree order place parent) where
  -- an edge is upwards for one node only
  pub parent_once : (u v : ℕ) → u < nodes → v < nodes → 0 < get_or place u 0 → 0 < get_or place v 0 → get_or parent u 0 ≡ get_or parent v 0 → u ≡ v
  parent_once u v lu lv pu pv same =
      let hu = r.hangs u lu refl pu in
      let hv = subst (λ k. HangsBy edges tree all_held place v k) (sym same) (r.hangs v lv refl pv) in
      let e = edge_at edges (get_or parent u 0) in
      elim (cases_eq u v) [
        | inl q ↦ q
        | inr ne ↦ elim (cases_eq e.tail u) [
          | inl t ↦ elim hv.at_end [
            | inl w ↦ absurd (ne (sym t ∙ w))
            | inr w ↦
                let a : get_or place v 0 < get_or place u 0 = subst (λ x. get_or place x 0 < get_or place u 0) (from_tail e u t ∙ w) hu.earlier in
                let b : get_or place u 0 < get_or place v 0 = subst (λ x. get_or place x 0 < get_or place v 0) (from_head e v (λ q. ne (sym t ∙ q)) ∙ t) hv.earlier in
                absurd (omega (arith, a, b))
          ]
          | inr nt ↦ elim hu.at_end [
            | inl t ↦ absurd (nt t)
            | inr t ↦ elim hv.at_end [
              | inr w ↦ absurd (ne (sym t ∙ w))
              | inl w ↦
                  let a : get_or place v 0 < get_or place u 0 = subst (λ x. get_or place x 0 < get_or place u 0) (from_head e u nt ∙ w) hu.earlier in
                  let b : get_or place u 0 < get_or place v 0 = subst (λ x. get_or place x 0 < get_or place v 0) (from_tail e v w ∙ t) hv.earlier in
                  absurd (omega (arith, a, b))
            ]
          ]
        ]
      ]

  -- before a node all are on the root's side of a set that only this node's edge crosses
  module _ (inside : ℕ → Bool) (ends : EndsBelow nodes edges) (child : ℕ) (uncrossed : (w : ℕ) → w < nodes → 0 < get_or place w 0 → w ≢ child → inside w ≡ inside (above edges parent w)) where
    before_to : (n w : ℕ) → w < nodes → get_or place w 0 < n → get_or place w 0 < get_or place child 0 → inside w ≡ inside 0
    before_to zero w l a b = absurd (omega (arith, a))
    before_to (suc n) w l a b =
        elim (cases_eq (get_or place w 0) 0) [
          | inl e ↦ ap inside (is_root nodes edges tree order place parent r w l e)
          | inr ne ↦
              let some : 0 < get_or place w 0 = omega (arith, ne) in
              let low = above_earlier nodes edges tree order place parent r w l some in
              uncrossed w l some (λ q. let x = ap (λ y. get_or place y 0) q in omega (arith, x, b)) ∙ before_to n (above edges parent w) (above_there nodes edges tree order place parent r w ends l some) (omega (arith, low, a)) (omega (arith, low, b))
        ]

    pub before_same : (w : ℕ) → w < nodes → get_or place w 0 < get_or place child 0 → inside w ≡ inside 0
    before_same w l b = before_to (suc (get_or place w 0)) w l (omega arith) b

  -- each tree edge is upwards for one of its ends
  module _ (t : IsSpanningTree nodes edges tree) (ends : EndsBelow nodes edges) (k : ℕ) (lk : k < length edges) (mk : is_marked tree k ≡ true) where
    module _ (not_tail : get_or parent (edge_at edges k).tail 0 ≢ k) (not_head : get_or parent (edge_at edges k).head 0 ≢ k) where
      other_edge : (v : ℕ) → v < nodes → 0 < get_or place v 0 → get_or parent v 0 ≢ k
      other_edge v l b same =
          let h = subst (λ j. HangsBy edges tree all_held place v j) same (r.hangs v l refl b) in
          elim h.at_end [
            | inl x ↦ not_tail (ap (λ y. get_or parent y 0) x ∙ same)
            | inr x ↦ not_head (ap (λ y. get_or parent y 0) x ∙ same)
          ]

      linked_to : (n v : ℕ) → v < nodes → get_or place v 0 < n → Linked edges (set tree k false) 0 v
      linked_to zero v l a = absurd (omega (arith, a))
      linked_to (suc n) v l a =
          elim (cases_eq (get_or place v 0) 0) [
            | inl e ↦ subst (λ x. Linked edges (set tree k false) 0 x) (sym (is_root nodes edges tree order place parent r v l e)) (link_stay edges (set tree k false) 0)
            | inr ne ↦
                let some : 0 < get_or place v 0 = omega (arith, ne) in
                let j = get_or parent v 0 in
                let e = edge_at edges j in
                let h = r.hangs v l refl some in
                let marked : is_marked (set tree k false) j ≡ true = get_or-set_other tree k j false false (other_edge v l some) ∙ h.has_mark in
                let one = link_one edges (set tree k false) j h.is_there marked in
                let low = h.earlier in
                let upper = linked_to n (above edges parent v) (above_there nodes edges tree order place parent r v ends l some) (omega (arith, low, a)) in
                elim (cases_eq e.tail v) [
                  | inl t ↦ subst (λ x. Linked edges (set tree k false) 0 x) t (link_join edges (set tree k false) 0 e.head e.tail (subst (λ x. Linked edges (set tree k false) 0 x) (from_tail e v t) upper) (link_back edges (set tree k false) e.tail e.head one))
                  | inr nt ↦ elim h.at_end [
                    | inl t ↦ absurd (nt t)
                    | inr t ↦ subst (λ x. Linked edges (set tree k false) 0 x) t (link_join edges (set tree k false) 0 e.tail e.head (subst (λ x. Linked edges (set tree k false) 0 x) (from_head e v nt) upper) one)
                  ]
                ]
          ]

      no_such : ⊥
      no_such =
          let e = edge_at edges k in
          let a = linked_to nodes e.tail (ends k lk).0 (r.placed e.tail (ends k lk).0 refl).0 in
          let b = linked_to nodes e.head (ends k lk).1 (r.placed e.head (ends k lk).1 refl).0 in
          t.no_cycle k lk mk (link_join edges (set tree k false) e.tail 0 e.head (link_back edges (set tree k false) 0 e.tail a) b)

    not_at_root : (v : ℕ) → v < nodes → get_or parent v 0 ≡ k → 0 < get_or place v 0
    not_at_root v l same =
        not_root nodes edges tree order place parent r v l (λ z. let a = ap (λ y. get_or parent y 0) z in let b = r.no_parent in omega (arith, a, b, same, lk))

    pub edge_hangs : ((get_or parent (edge_at edges k).tail 0 ≡ k) × (0 < get_or place (edge_at edges k).tail 0)) ⊎ ((get_or parent (edge_at edges k).head 0 ≡ k) × (0 < get_or place (edge_at edges k).head 0))
    edge_hangs =
        elim (cases_eq (get_or parent (edge_at edges k).tail 0) k) [
          | inl a ↦ inl (a, not_at_root (edge_at edges k).tail (ends k lk).0 a)
          | inr na ↦ elim (cases_eq (get_or parent (edge_at edges k).head 0) k) [
            | inl b ↦ inr (b, not_at_root (edge_at edges k).head (ends k lk).1 b)
            | inr nb ↦ absurd (no_such na nb)
          ]
        ]

    -- the node that hangs by the edge
    pub hung_node : (v : ℕ) × (v < nodes) × (0 < get_or place v 0) × (get_or parent v 0 ≡ k)
    hung_node =
        elim edge_hangs [
          | inl a ↦ ((edge_at edges k).tail, (ends k lk).0, a.1, a.0)
          | inr a ↦ ((edge_at edges k).head, (ends k lk).1, a.1, a.0)
        ]

  -- a cut of the edge of `child` is crossed by no other node's edge
  pub cut_uncrossed : (inside : ℕ → Bool) (child : ℕ) → child < nodes → 0 < get_or place child 0 → IsCut edges tree (get_or parent child 0) inside → (w : ℕ) → w < nodes → 0 < get_or place w 0 → w ≢ child → inside w ≡ inside (above edges parent w)
  cut_uncrossed inside child lc pc c w l p ne =
      let h = r.hangs w l refl p in
      across inside (edge_at edges (get_or parent w 0)) w h.at_end (c.others (get_or parent w 0) h.is_there h.has_mark (λ same. ne (parent_once w child l lc p pc same)))
