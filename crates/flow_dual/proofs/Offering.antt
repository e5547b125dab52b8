-- The queue of a search's steps, as steps are added and taken.
use Rattle.std.proofs.Common.{◌≡◌, ℕ, zero, suc, ◌<◌, ◌≤◌, Bool, ◌⊎◌, ℤ, List, [], ◌∷◌, ◌++◌, length, get_or, arith, refl, sym, subst, ◌∙◌, inl, inr}
use Rattle.std.specs.List.{All, Contains}
use Rattle.std.proofs.lemmas.Bool.{cases_eq, cases_lt}
use Rattle.std.proofs.lemmas.List.Sorted.{Contains-permutation, IsPermutation-refl, IsPermutation-sym, IsPermutation-trans, IsPermutation-to_front, IsPermutation-middle, IsPermutation-append_left, IsPermutation-append_right, length_permutation}
use Rattle.std.specs.List.Sorted.{IsPermutation}
use Rattle.std.proofs.lemmas.List.Elements.{All-contains, All-append, All-tail, All-weaker}
use Rattle.network_laws.specs.declared.network.NetEdge.{NetEdge}
use Rattle.network_laws.specs.declared.links.End.{End}
use Rattle.network_laws.specs.declared.links.End.TheVariants.{Tail, Head}
use Rattle.network_laws.specs.Network.{edge_at}
use Rattle.network_laws.specs.Links.{end_of, IsNextAt}
use Rattle.flow_dual.specs.declared.queue.Step.{Step}
use Rattle.flow_dual.specs.Queue.{nearness, TakesNearest, Adds, Crosses, TakesStep, Drops, HasNoStep, IsOpen, IsStepFrom, IsBack, Offers}

-- membership of a list with a first element
pub in_first : {X : Type 0} (x t : X) (xs : List X) → Contains (x ∷ xs) t → (t ≡ x) ⊎ Contains xs t
in_first x t xs (zero, l, e) = inl (sym e)
in_first x t xs (suc k, l, e) = inr (k, omega (arith, l), e)

pub first_in : {X : Type 0} (x : X) (xs : List X) → Contains (x ∷ xs) x
first_in x xs = (0, omega arith, refl)

pub rest_in : {X : Type 0} (x t : X) (xs : List X) → Contains xs t → Contains (x ∷ xs) t
rest_in x t xs (k, l, e) = (suc k, omega (arith, l), e)

-- a list of steps that are all as near as the one in front, beside a heap of steps that are no nearer
pub takes_first : (now : ℕ) (old new further : List Step) (s : Step) → old ≡ s ∷ new → All (λ (t : Step). nearness t ≡ now) old → All (λ (t : Step). now ≤ nearness t) further → TakesNearest (old ++ further) s (new ++ further)
takes_first now old new further s is same no_nearer =
    let all : All (λ (t : Step). nearness t ≡ now) (s ∷ new) = subst (λ xs. All (λ (t : Step). nearness t ≡ now) xs) is same in
    let at : nearness s ≡ now = all 0 s (omega arith) in
    record {
      moves = subst (λ xs. IsPermutation (xs ++ further) (s ∷ (new ++ further))) (sym is) (IsPermutation-refl (s ∷ (new ++ further)));
      nearest = All-append (λ (t : Step). nearness s ≤ nearness t) new further
          (All-weaker (λ (t : Step). nearness t ≡ now) (λ (t : Step). nearness s ≤ nearness t) (λ t e. omega (arith, e, at)) new (All-tail (λ (t : Step). nearness t ≡ now) s new all))
          (All-weaker (λ (t : Step). now ≤ nearness t) (λ (t : Step). nearness s ≤ nearness t) (λ t l. omega (arith, l, at)) further no_nearer);
    }

pub adds_at_once : (old new further : List Step) (s : Step) → new ≡ old ++ s ∷ [] → IsPermutation (s ∷ (old ++ further)) (new ++ further)
adds_at_once old new further s is =
    subst (λ xs. IsPermutation (s ∷ (old ++ further)) (xs ++ further)) (sym is) (IsPermutation-sym ((old ++ s ∷ []) ++ further) (s ∷ (old ++ further)) (IsPermutation-append_left further (old ++ s ∷ []) (s ∷ old) (IsPermutation-to_front old s)))

pub adds_further : (at_once old new : List Step) (s : Step) → IsPermutation (s ∷ old) new → IsPermutation (s ∷ (at_once ++ old)) (at_once ++ new)
adds_further at_once old new s p =
    IsPermutation-trans (s ∷ (at_once ++ old)) (at_once ++ s ∷ old) (at_once ++ new) (IsPermutation-sym (at_once ++ s ∷ old) (s ∷ (at_once ++ old)) (IsPermutation-middle at_once s old)) (IsPermutation-append_right at_once (s ∷ old) new p)

pub taken_in : (old new : List Step) (s t : Step) → TakesNearest old s new → Contains old t → (t ≡ s) ⊎ Contains new t
taken_in old new s t m c = in_first s t new (Contains-permutation old (s ∷ new) t m.moves c)

pub left_in : (old new : List Step) (s t : Step) → TakesNearest old s new → Contains new t → Contains old t
left_in old new s t m c = Contains-permutation (s ∷ new) old t (IsPermutation-sym old (s ∷ new) m.moves) (rest_in s t new c)

pub was_in : (old new : List Step) (s : Step) → TakesNearest old s new → Contains old s
was_in old new s m = Contains-permutation (s ∷ new) old s (IsPermutation-sym old (s ∷ new) m.moves) (first_in s new)

pub drops_none : (edges : List NetEdge) (set : ℕ → Bool) (old : List Step) → Drops edges set old old
drops_none edges set old = record { fewer = λ t c. c; kept = λ t c x. c }

pub drops_more : (edges : List NetEdge) (set : ℕ → Bool) (first old new : List Step) (s : Step) → Drops edges set first old → TakesNearest old s new → (Crosses set (edge_at edges s.edge) → ⊥) → Drops edges set first new
drops_more edges set first old new s d m no_cross = record {
  fewer = λ t c. d.fewer t (left_in old new s t m c);
  kept = λ t c x. elim (taken_in old new s t m (d.kept t c x)) [
    | inl e ↦ absurd (no_cross (subst (λ (u : Step). Crosses set (edge_at edges u.edge)) e x))
    | inr k ↦ k
  ];
}

pub takes_step : (edges : List NetEdge) (set : ℕ → Bool) (first old new : List Step) (s : Step) → Drops edges set first old → TakesNearest old s new → Crosses set (edge_at edges s.edge) → TakesStep edges set first s new
takes_step edges set first old new s d m cross = record {
  was = d.fewer s (was_in old new s m);
  crosses = cross;
  nearest = m.nearest;
  fewer = λ t c. d.fewer t (left_in old new s t m c);
  kept = λ t c x. taken_in old new s t m (d.kept t c x);
}

pub no_step : (edges : List NetEdge) (set : ℕ → Bool) (first old : List Step) → Drops edges set first old → old ≡ [] → HasNoStep edges set first
no_step edges set first old d none t c x =
    let k = subst (λ xs. Contains xs t) none (d.kept t c x) in
    let l = k.1 in
    absurd (omega (arith, l))

-- steps from one node
pub offers_none : (edges : List NetEdge) (layers : List ℤ) (flow : List ℕ) (set : ℕ → Bool) (end : End) (v near k : ℕ) (old : List Step) → IsNextAt edges end v 0 k → Offers edges layers flow set end v near k old old
offers_none edges layers flow set end v near k old n = record {
  kept = λ t c. c;
  offered = λ j l is may. absurd (n.none_between j (omega arith) l is);
  only = λ t c. inl c;
}

-- the edges between one and the next are of other nodes
pub offers_past : (edges : List NetEdge) (layers : List ℤ) (flow : List ℕ) (set : ℕ → Bool) (end : End) (v near k k' : ℕ) (old new : List Step) → IsNextAt edges end v (suc k) k' → (IsOpen set end (edge_at edges k) (get_or flow k 0) → (t : Step) × Contains new t × (t.edge ≡ k)) → Offers edges layers flow set end v near k old new → Offers edges layers flow set end v near k' old new
offers_past edges layers flow set end v near k k' old new n here o = record {
  kept = o.kept;
  offered = λ j l is may. elim (cases_lt j k) [
    | inl less ↦ o.offered j less is may
    | inr le ↦ elim (cases_eq j k) [
      | inl e ↦
          let h = here (subst (λ x. IsOpen set end (edge_at edges x) (get_or flow x 0)) e may) in
          (h.0, h.1, h.2 ∙ sym e)
      | inr ne ↦ absurd (n.none_between j (omega (arith, le, ne)) l is)
    ]
  ];
  only = o.only;
}

pub offers_more : (edges : List NetEdge) (layers : List ℤ) (flow : List ℕ) (set : ℕ → Bool) (end : End) (v near k d : ℕ) (old q new : List Step) → k < length edges → end_of end (edge_at edges k) ≡ v → IsStepFrom layers (edge_at edges k) (get_or flow k 0) near end d → Adds q d k new → Offers edges layers flow set end v near k old q → Offers edges layers flow set end v near k old new × ((t : Step) × Contains new t × (t.edge ≡ k))
offers_more edges layers flow set end v near k d old q new l is step adds o =
    let s : Step = record { near = record { 0 = d }; edge = k } in
    let in_new : (t : Step) → Contains q t → Contains new t = λ t c. Contains-permutation (s ∷ q) new t adds (rest_in s t q c) in (
      record {
        kept = λ t c. in_new t (o.kept t c);
        offered = λ j lj isj may. let h = o.offered j lj isj may in (h.0, in_new h.0 h.1, h.2);
        only = λ t c. elim (in_first s t q (Contains-permutation new (s ∷ q) t (IsPermutation-sym (s ∷ q) new adds) c)) [
          | inl e ↦ inr (subst (λ (u : Step). (u.edge < length edges) × (end_of end (edge_at edges u.edge) ≡ v) × IsStepFrom layers (edge_at edges u.edge) (get_or flow u.edge 0) near end (nearness u)) (sym e) (l, is, step))
          | inr m ↦ o.only t m
        ];
      },
      (s, Contains-permutation (s ∷ q) new s adds (first_in s q), refl),
    )

pub back_used : (set : ℕ → Bool) (end : End) (e : NetEdge) (amount : ℕ) → IsOpen set end e amount → IsBack end → 0 < amount
back_used set Tail e amount may back = absurd back
back_used set Head e amount may back = may.1

pub step_there : (edges : List NetEdge) (set : ℕ → Bool) (n : ℕ) (first old new : List Step) (s : Step) → Drops edges set first old → TakesNearest old s new → All (λ (t : Step). t.edge < n) first → s.edge < n
step_there edges set n first old new s d m all = All-contains (λ (t : Step). t.edge < n) first s all (d.fewer s (was_in old new s m))

pub queue_falls : (old new : List Step) (s : Step) → TakesNearest old s new → length new < length old
queue_falls old new s m = let l = length_permutation old (s ∷ new) m.moves in omega (arith, l)
