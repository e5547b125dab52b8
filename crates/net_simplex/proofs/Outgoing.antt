-- The queue of the edges that lead out of the tree.
use Rattle.std.proofs.Common.{◌≡◌, ◌≢◌, ℕ, suc, ◌<◌, Bool, true, false, ◌⊎◌, ℤ, List, [], ◌∷◌, length, get_or, Some, None, arith, refl, sym, ap, subst, ◌∙◌, inl, inr}
use Rattle.std.proofs.lemmas.Int.{ints}
use Rattle.std.specs.List.{Contains}
use Rattle.std.specs.List.Sorted.{IsPermutation}
use Rattle.std.proofs.lemmas.Bool.{cases_eq, cases_lt}
use Rattle.std.proofs.lemmas.List.Sorted.{Contains-permutation, IsPermutation-sym, length_permutation}
use Rattle.network_laws.specs.declared.network.NetEdge.{NetEdge}
use Rattle.network_laws.specs.declared.links.End.{End}
use Rattle.network_laws.specs.declared.links.End.TheVariants.{Tail, Head}
use Rattle.network_laws.specs.Network.{edge_at, EndsBelow}
use Rattle.network_laws.specs.Links.{end_of, far_of, IsNextAt}
use Rattle.network_laws.specs.Layering.{layer_of}
use Rattle.flow_dual.proofs.Offering.{in_first, first_in, rest_in}
use Rattle.net_simplex.specs.declared.waiting.Waiting.{Waiting}
use Rattle.net_simplex.specs.Pivots.{is_in}
use Rattle.net_simplex.specs.Grown.{ReachesOneMore}
use Rattle.net_simplex.specs.Outward.{rise_of, ComesFirst, entry, Adds, IsFirst, Loses, LeadsOut, AreWaiting, IsNearest, IsQueue, IsQueueBut}
use Rattle.net_simplex.proofs.Walking.{clash}

module _ (edges : List NetEdge) (end : End) (reached : List Bool) (layers : List ℤ) where
  -- a later number: the edges between are of other nodes, and edge i waits if it leads out
  pub waiting_past : (v i i' : ℕ) (queue : List Waiting) → IsNextAt edges end v (suc i) i' → (LeadsOut end reached (edge_at edges i) → (t : Waiting) × Contains queue t × (t.edge.0 ≡ i)) → AreWaiting edges end reached layers v i queue → AreWaiting edges end reached layers v i' queue
  waiting_past v i i' queue n here w = record {
    there = w.there;
    held = w.held;
    rises = w.rises;
    waits = λ k l out before. elim (cases_eq k i) [
      | inl e ↦ let h = here (subst (λ x. LeadsOut end reached (edge_at edges x)) e out) in (h.0, h.1, h.2 ∙ sym e)
      | inr ne ↦ w.waits k l out (λ at. elim (cases_lt k i) [
        | inl less ↦ less
        | inr le ↦ absurd (n.none_between k (omega (arith, le, ne)) (before at) at)
      ])
    ];
  }

  pub waiting_begun : (v i : ℕ) (queue : List Waiting) → IsNextAt edges end v 0 i → AreWaiting edges end reached layers v 0 queue → AreWaiting edges end reached layers v i queue
  waiting_begun v i queue n w = record {
    there = w.there;
    held = w.held;
    rises = w.rises;
    waits = λ k l out before. w.waits k l out (λ at. absurd (n.none_between k (omega arith) (before at) at));
  }

  -- one more edge of v waits
  pub waiting_more : (v i k : ℕ) (old new : List Waiting) → k < length edges → is_in reached (end_of end (edge_at edges k)) ≡ true → Adds old (rise_of layers (edge_at edges k)) k new → AreWaiting edges end reached layers v i old → AreWaiting edges end reached layers v i new × ((t : Waiting) × Contains new t × (t.edge.0 ≡ k))
  waiting_more v i k old new l held adds w =
      let s : Waiting = entry (rise_of layers (edge_at edges k)) k in
      let in_new : (t : Waiting) → Contains old t → Contains new t = λ t c. Contains-permutation (s ∷ old) new t adds (rest_in s t old c) in
      let from_new : (t : Waiting) → Contains new t → (t ≡ s) ⊎ Contains old t = λ t c. in_first s t old (Contains-permutation new (s ∷ old) t (IsPermutation-sym (s ∷ old) new adds) c) in (
        record {
          there = λ t c. elim (from_new t c) [
            | inl e ↦ subst (λ (u : Waiting). u.edge.0 < length edges) (sym e) l
            | inr o ↦ w.there t o
          ];
          held = λ t c. elim (from_new t c) [
            | inl e ↦ subst (λ (u : Waiting). is_in reached (end_of end (edge_at edges u.edge.0)) ≡ true) (sym e) held
            | inr o ↦ w.held t o
          ];
          rises = λ t c out. elim (from_new t c) [
            | inl e ↦ subst (λ (u : Waiting). u.rise.0 ≡ rise_of layers (edge_at edges u.edge.0)) (sym e) refl
            | inr o ↦ w.rises t o out
          ];
          waits = λ j lj out before. let h = w.waits j lj out before in (h.0, in_new h.0 h.1, h.2);
        },
        (s, Contains-permutation (s ∷ old) new s adds (first_in s old), refl),
      )

  -- nothing of one node lacks: nothing of any does
  pub all_waiting : (v u : ℕ) (queue : List Waiting) → AreWaiting edges end reached layers v (length edges) queue → AreWaiting edges end reached layers u (length edges) queue
  all_waiting v u queue w = record {
    there = w.there;
    held = w.held;
    rises = w.rises;
    waits = λ k l out before. w.waits k l out (λ at. l);
  }

  -- the head of the queue
  first_is_in : (queue : List Waiting) (t : Waiting) → IsFirst queue t → Contains queue t
  first_is_in queue t f = subst (λ xs. Contains xs t) (sym f.heads) (first_in t f.rest)

  pub first_there : (v i : ℕ) (queue : List Waiting) (t : Waiting) → IsFirst queue t → AreWaiting edges end reached layers v i queue → t.edge.0 < length edges
  first_there v i queue t f w = w.there t (first_is_in queue t f)

  pub first_nearest : (queue : List Waiting) (t : Waiting) → IsFirst queue t → is_in reached (far_of end (edge_at edges t.edge.0)) ≡ false → AreWaiting edges end reached layers 0 (length edges) queue → IsNearest edges end reached layers (Some t.edge.0)
  first_nearest queue t f out w =
      let c = first_is_in queue t f in (
        w.there t c,
        (w.held t c, out),
        λ i l leads.
            let h = w.waits i l leads (λ _. l) in
            let e : h.0.rise.0 ≡ rise_of layers (edge_at edges i) = w.rises h.0 h.1 (subst (λ x. is_in reached (far_of end (edge_at edges x)) ≡ false) (sym h.2) leads.1) ∙ ap (λ x. rise_of layers (edge_at edges x)) h.2 in
            subst (λ x. ComesFirst x t.edge.0 (rise_of layers (edge_at edges i)) i) (w.rises t c out)
            (subst (λ x. ComesFirst t.rise.0 t.edge.0 x i) e
            (subst (λ x. ComesFirst t.rise.0 t.edge.0 h.0.rise.0 x) h.2 (f.first h.0 h.1))),
      )

  -- nothing waits, so nothing leads out
  pub none_nearest : (queue : List Waiting) → queue ≡ [] → AreWaiting edges end reached layers 0 (length edges) queue → IsNearest edges end reached layers None
  none_nearest queue e w = λ i l leads.
      let there = (w.waits i l leads (λ _. l)).1.1 in
      let none = ap length e in
      absurd (omega (arith, there, none))

  -- an edge whose far end is reached too is taken out
  pub first_dropped : (v i : ℕ) (old new : List Waiting) (t : Waiting) → IsFirst old t → Loses old new → is_in reached (far_of end (edge_at edges t.edge.0)) ≡ true → AreWaiting edges end reached layers v i old → AreWaiting edges end reached layers v i new
  first_dropped v i old new t f loses reaches w =
      let p : IsPermutation old (t ∷ new) = loses t f.rest f.heads in
      let was : (u : Waiting) → Contains new u → Contains old u = λ u c. Contains-permutation (t ∷ new) old u (IsPermutation-sym old (t ∷ new) p) (rest_in t u new c) in
      record {
        there = λ u c. w.there u (was u c);
        held = λ u c. w.held u (was u c);
        rises = λ u c. w.rises u (was u c);
        waits = λ k l out before.
            let h = w.waits k l out before in
            elim (in_first t h.0 new (Contains-permutation old (t ∷ new) h.0 p h.1)) [
              | inl e ↦ clash (is_in reached (far_of end (edge_at edges k))) (subst (λ x. is_in reached (far_of end (edge_at edges x)) ≡ true) (ap (λ (u : Waiting). u.edge.0) (sym e) ∙ h.2) reaches) out.1
              | inr m ↦ (h.0, m, h.2)
            ];
      }

pub queue_falls : (old new : List Waiting) (t : Waiting) → IsFirst old t → Loses old new → length new < length old
queue_falls old new t f loses = let l = length_permutation old (t ∷ new) (loses t f.rest f.heads) in omega (arith, l)

-- one node more is reached
module _ (nodes : ℕ) (edges : List NetEdge) (ends : EndsBelow nodes edges) (end : End) where
  pub both_below : (end' : End) (k : ℕ) → k < length edges → (end_of end' (edge_at edges k) < nodes) × (far_of end' (edge_at edges k) < nodes)
  both_below Tail k l = ends k l
  both_below Head k l = ((ends k l).1, (ends k l).0)

  rise_same : (end' : End) (layers layers' : List ℤ) (e : NetEdge) → layer_of layers' (end_of end' e) ≡ layer_of layers (end_of end' e) → layer_of layers' (far_of end' e) ≡ layer_of layers (far_of end' e) → rise_of layers e ≡ rise_of layers' e
  rise_same Tail layers layers' e a b = omega (arith, ints, a, b)
  rise_same Head layers layers' e a b = omega (arith, ints, a, b)

  module _ (filled : ℕ) (reached : List Bool) (layers : List ℤ) (order' : List ℕ) (reached' : List Bool) (layers' : List ℤ) (j : ReachesOneMore nodes filled reached layers order' reached' layers') where
    abbrev new : ℕ
    new = get_or order' filled 0

    was_other : (v : ℕ) → is_in reached v ≡ true → v ≢ new
    was_other v m e = clash (is_in reached new) (subst (λ x. is_in reached x ≡ true) e m) j.was_out

    out_other : (v : ℕ) → is_in reached' v ≡ false → v ≢ new
    out_other v m e = clash (is_in reached' new) j.is_held (subst (λ x. is_in reached' x ≡ false) e m)

    waiting_joined : (queue : List Waiting) → AreWaiting edges end reached layers 0 (length edges) queue → AreWaiting edges end reached' layers' new 0 queue
    waiting_joined queue w = record {
      there = w.there;
      held = λ t c. let h = w.held t c in let b = both_below end t.edge.0 (w.there t c) in (j.others (end_of end (edge_at edges t.edge.0)) b.0 (was_other (end_of end (edge_at edges t.edge.0)) h)).0 ∙ h;
      rises = λ t c out.
          let b = both_below end t.edge.0 (w.there t c) in
          let from = end_of end (edge_at edges t.edge.0) in
          let to = far_of end (edge_at edges t.edge.0) in
          let p = j.others from b.0 (was_other from (w.held t c)) in
          let q = j.others to b.1 (out_other to out) in
          w.rises t c (sym q.0 ∙ out) ∙ rise_same end layers layers' (edge_at edges t.edge.0) p.1 q.1;
      waits = λ k l leads before.
          let b = both_below end k l in
          let from = end_of end (edge_at edges k) in
          let to = far_of end (edge_at edges k) in
          let ne : from ≢ new = λ at. let none = before at in absurd (omega (arith, none)) in
          let p = j.others from b.0 ne in
          let q = j.others to b.1 (out_other to leads.1) in
          w.waits k l (sym p.0 ∙ leads.0, sym q.0 ∙ leads.1) (λ _. l);
    }

    pub queue_joined : (queue : List Waiting) → IsQueue edges end reached layers queue → IsQueueBut edges end reached' layers' new queue
    queue_joined queue q = record { heap = q.heap; waiting = waiting_joined queue q.waiting }
