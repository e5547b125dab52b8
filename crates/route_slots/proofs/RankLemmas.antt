-- Ranks of nets, one more at a time, and why the nets can't be ranked where some are held back.
use Rattle.std.proofs.Common.{◌≡◌, ◌≢◌, ◌∙◌, ◌⊎◌, ⊎_elim, inl, inr, ℕ, zero, suc, ◌+◌, ◌<◌, ◌≤◌, ◌==◌, List, length, replicate, sym, ap, subst, arith, get_or-set_other, get_or-set_same, slice_set}
use Rattle.std.proofs.lemmas.Bool.{cases_eq, eq-eqb, ne_eqb}
use Rattle.std.proofs.Math.ListN.{length-set}
use Rattle.std.proofs.lemmas.List.{get_or-replicate, length-replicate}
use Rattle.net_routes.specs.declared.Net.{Net}
use Rattle.net_routes.specs.Crossings.{one}
use Rattle.route_slots.specs.NetDepths.{AreNetDepths, net_depth}
use Rattle.net_routes.specs.Uncrossed.{Precedes, IsOrderable}
use Rattle.route_slots.specs.Ranks.{no_rank, waits, AreRanks, AreHeldBack}
use Rattle.net_routes.proofs.Summing.{sum_changed, sum_ones}
use Rattle.net_routes.specs.Limits.{net_limit}
use Rattle.route_slots.proofs.Ordered.{two_bent}

waits_not : (depths : List ℕ) (k : ℕ) → net_depth depths k ≢ no_rank → waits depths k ≡ 0
unfolding one
waits_not depths k ne = ap one (ne_eqb (net_depth depths k) no_rank ne)

waits_for : (depths : List ℕ) (k : ℕ) → net_depth depths k ≡ no_rank → waits depths k ≡ 1
unfolding one
waits_for depths k e = ap one (eq-eqb (net_depth depths k) no_rank e)

pub none_ranked : (nets : List Net) (depths : List ℕ) → depths ≡ replicate (length nets) no_rank → AreRanks nets depths 0
none_ranked nets depths e =
    let each : (k : ℕ) → k < length nets → net_depth depths k ≡ no_rank = λ k l. ap (λ (ls : List ℕ). net_depth ls k) e ∙ get_or-replicate (length nets) k no_rank 0 l in
    record {
      len = ap length e ∙ length-replicate (length nets) no_rank;
      below = λ k l. inl (each k l);
      behind = λ j k p lt. absurd (omega arith);
      left = let all = sum_ones (waits depths) (length nets) (λ k l. waits_for depths k (each k l)) in omega arith;
    }

module _ (nets : List Net) (depths : List ℕ) (next k : ℕ) (few : length nets ≤ net_limit) (is : AreRanks nets depths next) (inside : k < length nets) (waiting : net_depth depths k ≡ no_rank)
    (free : (j : ℕ) → j < length nets → net_depth depths j ≡ no_rank → Precedes nets j k → ⊥) where
  abbrev new : List ℕ
  new = slice_set depths k next

  low : next ≤ net_limit
  low = let left = is.left in omega arith

  at : net_depth new k ≡ next
  at = let len = is.len in get_or-set_same depths k next 0 (omega arith)

  other : (j : ℕ) → j ≢ k → net_depth new j ≡ net_depth depths j
  other j ne = get_or-set_other depths k j next 0 ne

  -- a net with a rank below one more than the next had one, or is the one that is ranked now
  had : (j : ℕ) → j < length nets → net_depth depths j < next + 1 → net_depth depths j < next
  had j l lt = ⊎_elim (λ (e : net_depth depths j ≡ no_rank). let f = low in absurd (omega arith)) (λ (r : net_depth depths j < next). r) (is.below j l)

  below : (j : ℕ) → j < length nets → (net_depth new j ≡ no_rank) ⊎ (net_depth new j < next + 1)
  below j l =
      ⊎_elim
      (λ (e : j ≡ k). inr (let here = ap (net_depth new) e ∙ at in omega arith))
      (λ (ne : j ≢ k). let same = other j ne in ⊎_elim (λ (e : net_depth depths j ≡ no_rank). inl (same ∙ e)) (λ (r : net_depth depths j < next). inr (omega arith)) (is.below j l))
      (cases_eq j k)

  behind : (j m : ℕ) → Precedes nets j m → net_depth new m < next + 1 → net_depth new j < net_depth new m
  behind j m p lt =
      let w = two_bent nets j m p in
      let two = w.2 in
      ⊎_elim
      (λ (e : m ≡ k).
      let here = ap (net_depth new) e ∙ at in
      let ne : j ≢ k = λ f. two (f ∙ sym e) in
      let same = other j ne in
      ⊎_elim
      (λ (f : net_depth depths j ≡ no_rank). absurd (free j w.0 f (subst (Precedes nets j) e p)))
      (λ (r : net_depth depths j < next). omega arith)
      (is.below j w.0))
      (λ (ne : m ≢ k).
      let same = other m ne in
      let ranked = had m w.1 (omega arith) in
      let was = is.behind j m p ranked in
      ⊎_elim
      (λ (e : j ≡ k). let bad = ap (net_depth depths) e ∙ waiting in let f = low in absurd (omega arith))
      (λ (nj : j ≢ k). let kept = other j nj in omega arith)
      (cases_eq j k))
      (cases_eq m k)

  pub one_more : AreRanks nets new (next + 1)
  one_more =
      record {
        len = length-set depths k next ∙ is.len;
        below = below;
        behind = behind;
        left =
            let now = waits_not new k (λ e. let f = low in let g = at in omega arith) in
            let was = waits_for depths k waiting in
            let sum = sum_changed (waits depths) (waits new) k (length nets) inside (omega arith) (λ j l ne. ap (λ z. one (z == no_rank)) (sym (other j ne))) in
            let left = is.left in
            omega arith;
      }

-- a net that is held back by one that is held back, and so on
held : (nets : List Net) (depths : List ℕ) → AreHeldBack nets depths (length nets) → (o : IsOrderable nets) (r k : ℕ) → k < length nets → net_depth depths k ≡ no_rank → o.rank k ≤ r → ⊥
held nets depths all o zero k l e le =
    let h = all k l e in
    let lt = o.behind h.by k h.ahead in
    omega arith
held nets depths all o (suc r) k l e le =
    let h = all k l e in
    let lt = o.behind h.by k h.ahead in
    held nets depths all o r h.by (two_bent nets h.by k h.ahead).0 h.waits (omega arith)

pub not_orderable : (nets : List Net) (depths : List ℕ) → AreHeldBack nets depths (length nets) → (k : ℕ) → k < length nets → net_depth depths k ≡ no_rank → IsOrderable nets → ⊥
not_orderable nets depths all k l e o = held nets depths all o (o.rank k) k l e (omega arith)

pub all_depths : (nets : List Net) (depths : List ℕ) (next : ℕ) → AreRanks nets depths next → ((k : ℕ) → k < length depths → net_depth depths k ≡ no_rank → ⊥) → AreNetDepths nets depths
all_depths nets depths next is each =
    record {
      len = is.len;
      rising = λ j k p.
          let l = (two_bent nets j k p).1 in
          let len = is.len in
          is.behind j k p (⊎_elim (λ (e : net_depth depths k ≡ no_rank). absurd (each k (omega arith) e)) (λ (r : net_depth depths k < next). r) (is.below k l));
    }
