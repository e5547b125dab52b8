-- Nodes are planted at new places, and the order is told.
use Rattle.std.proofs.Common.{◌≡◌, ◌≢◌, ℕ, ◌+◌, ◌-◌, ◌<◌, ◌≤◌, ◌⊎◌, List, length, set, get_or, arith, refl, sym, ap, subst, ◌∙◌, inl, inr}
use Rattle.std.proofs.lemmas.Bool.{cases_eq, cases_lt}
use Rattle.std.proofs.lemmas.Bool.Decides.{nat_tests}
use Rattle.std.proofs.lemmas.List.{get_or-set_same, get_or-set_other, length-set}
use Rattle.net_simplex.specs.Walks.{moved, first_place}
use Rattle.net_simplex.specs.Rerooting.{AreDistinct, Plants, Settles}

-- different places have different nodes
pub distinct : (nodes : ℕ) (order was : List ℕ) → AreDistinct nodes order was → (i j : ℕ) → i < length order → j < length order → get_or order i 0 ≡ get_or order j 0 → i ≡ j
distinct nodes order was a i j li lj e = sym (a.nodes_are i li).1 ∙ (ap (λ v. get_or was v 0) e ∙ (a.nodes_are j lj).1)

module _ (nodes : ℕ) (order was : List ℕ) (a : AreDistinct nodes order was) (low at : ℕ) (next place : List ℕ) (n : length place ≡ nodes) where
  pub plants_none : Plants order low low at next place next place
  plants_none = record {
    next_each = refl;
    place_each = refl;
    planted = λ d l. absurd (omega (arith, l));
    next_others = λ q o. refl;
    place_others = λ u o. refl;
  }

  module _ (i : ℕ) (from : low ≤ i) (there : i < length order) (next' place' : List ℕ) (p : Plants order low i at next place next' place') (room : at + (i - low) < length next) where
    abbrev v : ℕ
    v = get_or order i 0

    abbrev to : ℕ
    to = at + (i - low)

    pub node_there : v < length place'
    node_there = let l = (a.nodes_are i there).0 in let e = p.place_each in omega (arith, l, e, n)

    pub plants_more : Plants order low (i + 1) at next place (set next' to v) (set place' v to)
    plants_more = record {
      next_each = length-set next' to v ∙ p.next_each;
      place_each = length-set place' v to ∙ p.place_each;
      planted = λ d l. elim (cases_eq (low + d) i) [
        | inl e ↦
            let at_d : at + d ≡ to = omega (arith, e) in
            let same = ap (λ j. get_or order j 0) e in
            let here : get_or (set place' v to) v 0 ≡ to = get_or-set_same place' v to 0 node_there in
            let told : get_or (set next' to v) to 0 ≡ v = get_or-set_same next' to v 0 (let e = p.next_each in omega (arith, e, room)) in (
              ap (λ u. get_or (set place' v to) u 0) same ∙ (here ∙ sym at_d),
              ap (λ q. get_or (set next' to v) q 0) at_d ∙ (told ∙ sym same),
            )
        | inr ne ↦
            let o = p.planted d (omega (arith, l, ne)) in
            let other : get_or order (low + d) 0 ≢ v = λ e. ne (distinct nodes order was a (low + d) i (omega (arith, l, ne, there)) there e) in (
              get_or-set_other place' v (get_or order (low + d) 0) to 0 other ∙ o.0,
              get_or-set_other next' to (at + d) v 0 (omega (arith, ne, from)) ∙ o.1,
            )
      ];
      next_others = λ q o. get_or-set_other next' to q v 0 (omega (arith, o, from)) ∙ p.next_others q (elim o [
        | inl l ↦ inl l
        | inr l ↦ inr (omega (arith, l))
      ]);
      place_others = λ u o.
          get_or-set_other place' v u to 0 (λ e. o i from (omega arith) (sym e))
          ∙ p.place_others u (λ j b c. o j b (omega (arith, c)));
    }

-- the places outside a block
down_before : (start many after p : ℕ) → start < after → p < start → moved start many after p ≡ p
down_before start many after p a b = grind (arith, nat_tests, a, b)

down_between : (start many after p : ℕ) → start + many ≤ p → p < after → moved start many after p ≡ p - many
down_between start many after p a b = grind (arith, nat_tests, a, b)

down_behind : (start many after p : ℕ) → start + many ≤ p → after ≤ p → moved start many after p ≡ p
down_behind start many after p a b = grind (arith, nat_tests, a, b)

up_before : (start many after p : ℕ) → p < start → p < after → moved start many after p ≡ p
up_before start many after p a b = grind (arith, nat_tests, a, b)

up_between : (start many after p : ℕ) → p < start → after ≤ p → moved start many after p ≡ p + many
up_between start many after p a b = grind (arith, nat_tests, a, b)

down_first : (start many after : ℕ) → start < after → first_place start many after ≡ after - many
down_first start many after a = grind (arith, nat_tests, a)

up_first : (start many after : ℕ) → after ≤ start → first_place start many after ≡ after
up_first start many after a = grind (arith, nat_tests, a)

module _ (nodes : ℕ) (order was next place : List ℕ) (a : AreDistinct nodes order was) (n : length order ≡ nodes) (lp : length place ≡ nodes) (start many after : ℕ) (block : start + many ≤ nodes) (behind : after ≤ nodes) (others : (p : ℕ) → p < nodes → ((p < start) ⊎ (start + many ≤ p)) → get_or place (get_or order p 0) 0 ≡ p) where
  abbrev Goes : ℕ → List ℕ → List ℕ → Type 0
  Goes p order' place' = (get_or order' (moved start many after p) 0 ≡ get_or order p 0) × (get_or place' (get_or order p 0) 0 ≡ moved start many after p)

  not_among : (p low high : ℕ) → p < nodes → high ≤ nodes → ((p < low) ⊎ (high ≤ p)) → (i : ℕ) → low ≤ i → i < high → get_or order i 0 ≢ get_or order p 0
  not_among p low high l h o i b c e =
      let x = distinct nodes order was a i p (omega (arith, c, h, n)) (omega (arith, l, n)) e in
      absurd (omega (arith, x, o, b, c))

  module _ (next2 place2 order' : List ℕ) (ln : length order' ≡ nodes) where
    pub settle_down : start < after → start + many ≤ after → Plants order (start + many) after start next place next2 place2 → ((p : ℕ) → start ≤ p → p < after → get_or order' p 0 ≡ get_or next2 p 0) → ((p : ℕ) → ((p < start) ⊎ (after ≤ p)) → get_or order' p 0 ≡ get_or order p 0) → Settles nodes order place next start many after order' place2
    settle_down less aside p copied still = record {
      order_each = ln;
      place_each = p.place_each ∙ lp;
      block = λ q b c.
          let f = down_first start many after less in
          copied q (omega (arith, b, f, aside)) (omega (arith, c, f, aside)) ∙ p.next_others q (inr (omega (arith, b, f)));
      others = λ i l o. elim o [
        | inl b ↦
            let is = down_before start many after i less b in
            let z = p.place_others (get_or order i 0) (not_among i (start + many) after l behind (inl (omega (arith, b)))) ∙ others i l (inl b) in
            subst (λ j. (get_or order' j 0 ≡ get_or order i 0) × (get_or place2 (get_or order i 0) 0 ≡ j)) (sym is) (still i (inl b), z)
        | inr b ↦ elim (cases_lt i after) [
          | inl c ↦
              let is = down_between start many after i b c in
              let d = i - (start + many) in
              let r = p.planted d (omega (arith, b, c)) in
              let same : start + many + d ≡ i = omega (arith, b) in
              let at : start + d ≡ i - many = omega (arith, b) in
              let node = ap (λ j. get_or order j 0) same in
              subst (λ j. (get_or order' j 0 ≡ get_or order i 0) × (get_or place2 (get_or order i 0) 0 ≡ j)) (sym is) (
                copied (i - many) (omega (arith, b)) (omega (arith, c)) ∙ (ap (λ j. get_or next2 j 0) (sym at) ∙ (r.1 ∙ node)),
                subst (λ u. get_or place2 u 0 ≡ i - many) node (r.0 ∙ at),
              )
          | inr c ↦
              let is = down_behind start many after i b c in
              let z = p.place_others (get_or order i 0) (not_among i (start + many) after l behind (inr c)) ∙ others i l (inr b) in
              subst (λ j. (get_or order' j 0 ≡ get_or order i 0) × (get_or place2 (get_or order i 0) 0 ≡ j)) (sym is) (still i (inr c), z)
        ]
      ];
      kept = λ u no. p.place_others u (λ i b c. no i (omega (arith, c, behind)) (inr b));
    }

    pub settle_up : after ≤ start → Plants order after start (after + many) next place next2 place2 → ((p : ℕ) → after ≤ p → p < start + many → get_or order' p 0 ≡ get_or next2 p 0) → ((p : ℕ) → ((p < after) ⊎ (start + many ≤ p)) → get_or order' p 0 ≡ get_or order p 0) → Settles nodes order place next start many after order' place2
    settle_up less p copied still = record {
      order_each = ln;
      place_each = p.place_each ∙ lp;
      block = λ q b c.
          let f = up_first start many after less in
          copied q (omega (arith, b, f)) (omega (arith, c, f, less)) ∙ p.next_others q (inl (omega (arith, c, f)));
      others = λ i l o. elim o [
        | inl b ↦ elim (cases_lt i after) [
          | inl c ↦
              let is = up_before start many after i b c in
              let z = p.place_others (get_or order i 0) (not_among i after start l (omega (arith, block)) (inl c)) ∙ others i l (inl b) in
              subst (λ j. (get_or order' j 0 ≡ get_or order i 0) × (get_or place2 (get_or order i 0) 0 ≡ j)) (sym is) (still i (inl c), z)
          | inr c ↦
              let is = up_between start many after i b c in
              let d = i - after in
              let r = p.planted d (omega (arith, b, c)) in
              let same : after + d ≡ i = omega (arith, c) in
              let at : after + many + d ≡ i + many = omega (arith, c) in
              let node = ap (λ j. get_or order j 0) same in
              subst (λ j. (get_or order' j 0 ≡ get_or order i 0) × (get_or place2 (get_or order i 0) 0 ≡ j)) (sym is) (
                copied (i + many) (omega (arith, c)) (omega (arith, b)) ∙ (ap (λ j. get_or next2 j 0) (sym at) ∙ (r.1 ∙ node)),
                subst (λ u. get_or place2 u 0 ≡ i + many) node (r.0 ∙ at),
              )
        ]
        | inr b ↦
            let is = down_behind start many after i b (omega (arith, b, less)) in
            let z = p.place_others (get_or order i 0) (not_among i after start l (omega (arith, block)) (inr (omega (arith, b)))) ∙ others i l (inr b) in
            subst (λ j. (get_or order' j 0 ≡ get_or order i 0) × (get_or place2 (get_or order i 0) 0 ≡ j)) (sym is) (still i (inr b), z)
      ];
      kept = λ u no. p.place_others u (λ i b c. no i (omega (arith, c, block)) (inl c));
    }
