-- Links are chained one after the other, from the last to the first.
use Rattle.std.proofs.Common.{◌≡◌, ◌≢◌, ◌∙◌, ◌⊎◌, ⊎_elim, inl, inr, ℕ, ◌+◌, ◌<◌, ◌≤◌, List, length, set, sym, ap, subst, arith}
use Rattle.std.proofs.lemmas.Bool.{cases_eq, cases_lt}
use Rattle.std.proofs.lemmas.List.{get_or-set_same, get_or-set_other, length-set}
use Rattle.route_slots.specs.declared.links.Link.{Link}
use Rattle.route_slots.specs.Links.{link_at, number_at}
use Rattle.route_slots.specs.Chains.{AreFirsts, AreNexts}

abbrev At : ℕ → ℕ → List ℕ → ℕ → Type 0
At i n ns u = ((u ≡ i) × (number_at (set ns i n) u ≡ n)) ⊎ ((u ≢ i) × (number_at (set ns i n) u ≡ number_at ns u))

read : (i n : ℕ) (ns : List ℕ) (u : ℕ) → i < length ns → At i n ns u
read i n ns u l =
    ⊎_elim
    (λ (e : u ≡ i). inl (e, ap (number_at (set ns i n)) e ∙ get_or-set_same ns i n 0 l))
    (λ (ne : u ≡ i → ⊥). inr (ne, get_or-set_other ns i u n 0 ne))
    (cases_eq u i)

module _ (nodes : ℕ) (links : List Link) (first next : List ℕ) (k : ℕ) (firsts : AreFirsts nodes links (k + 1) first) (nexts : AreNexts links (k + 1) next)
    (inside : k < length links) (tail_inside : (link_at links k).tail < nodes) where
  abbrev tail : ℕ
  tail = (link_at links k).tail

  abbrev follows : ℕ
  follows = number_at first tail

  in_first : tail < length first
  in_first = let e = firsts.as_many in omega arith

  in_next : k < length next
  in_next = let e = nexts.as_many in omega arith

  pub firsts_more : AreFirsts nodes links k (set first tail k)
  firsts_more =
      record {
        as_many = length-set first tail k ∙ firsts.as_many;
        from = λ v l h. ⊎_elim
            (λ (x : (v ≡ tail) × (number_at (set first tail k) v ≡ k)). let e = x.1 in omega arith)
            (λ (x : (v ≢ tail) × (number_at (set first tail k) v ≡ number_at first v)). let e = x.1 in let f = firsts.from v l (omega arith) in omega arith)
            (read tail k first v in_first);
        tails = λ v l h. ⊎_elim
            (λ (x : (v ≡ tail) × (number_at (set first tail k) v ≡ k)). subst (λ z. (link_at links z).tail ≡ v) (sym x.1) (sym x.0))
            (λ (x : (v ≢ tail) × (number_at (set first tail k) v ≡ number_at first v)).
            let e = x.1 in subst (λ z. (link_at links z).tail ≡ v) (sym x.1) (firsts.tails v l (omega arith)))
            (read tail k first v in_first);
        least = λ j le l. ⊎_elim
            (λ (x : ((link_at links j).tail ≡ tail) × (number_at (set first tail k) (link_at links j).tail ≡ k)). let e = x.1 in omega arith)
            (λ (x : ((link_at links j).tail ≢ tail) × (number_at (set first tail k) (link_at links j).tail ≡ number_at first (link_at links j).tail)).
            let e = x.1 in
            ⊎_elim
            (λ (same : j ≡ k). absurd (x.0 (ap (λ z. (link_at links z).tail) same)))
            (λ (ne : j ≡ k → ⊥). let f = firsts.least j (omega arith) l in omega arith)
            (cases_eq j k))
            (read tail k first (link_at links j).tail in_first);
      }

  pub nexts_more : AreNexts links k (set next k follows)
  nexts_more =
      record {
        as_many = length-set next k follows ∙ nexts.as_many;
        after = λ j le l. ⊎_elim
            (λ (x : (j ≡ k) × (number_at (set next k follows) j ≡ follows)).
            let e = x.1 in ⊎_elim (λ (lt : follows < length links). let f = firsts.from tail tail_inside lt in omega arith) (λ (ge : length links ≤ follows). omega arith) (cases_lt follows (length links)))
            (λ (x : (j ≢ k) × (number_at (set next k follows) j ≡ number_at next j)). let e = x.1 in let ne = x.0 in let f = nexts.after j (omega arith) l in omega arith)
            (read k follows next j in_next);
        tails = λ j le l h. ⊎_elim
            (λ (x : (j ≡ k) × (number_at (set next k follows) j ≡ follows)).
            let e = x.1 in
            subst (λ z. (link_at links z).tail ≡ (link_at links j).tail) (sym x.1) (firsts.tails tail tail_inside (omega arith) ∙ sym (ap (λ z. (link_at links z).tail) x.0)))
            (λ (x : (j ≢ k) × (number_at (set next k follows) j ≡ number_at next j)).
            let e = x.1 in let ne = x.0 in subst (λ z. (link_at links z).tail ≡ (link_at links j).tail) (sym x.1) (nexts.tails j (omega arith) l (omega arith)))
            (read k follows next j in_next);
        least = λ i j le lt l same. ⊎_elim
            (λ (x : (i ≡ k) × (number_at (set next k follows) i ≡ follows)).
            let e = x.1 in
            let f = firsts.least j (omega arith) l in
            let g : number_at first (link_at links j).tail ≡ follows = ap (number_at first) (same ∙ ap (λ z. (link_at links z).tail) x.0) in omega arith)
            (λ (x : (i ≢ k) × (number_at (set next k follows) i ≡ number_at next i)).
            let e = x.1 in let ne = x.0 in let f = nexts.least i j (omega arith) lt l same in omega arith)
            (read k follows next i in_next);
      }
