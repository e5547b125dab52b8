-- Links that are noted one after the other.
use Rattle.std.proofs.Common.{◌≡◌, ◌≢◌, inl, inr, ℕ, ◌+◌, ◌<◌, cond, Bool, true, false, List, length, get_or, set, arith, refl, sym, subst, ap, ◌∙◌}
use Rattle.std.proofs.lemmas.Bool.{cases_eq, cases_lt}
use Rattle.std.proofs.lemmas.List.{get_or-set_same, get_or-set_other, length-set}
use Rattle.elk_layers.specs.Layered.{link_at}
use Rattle.level_nets.specs.Parts.{Parts}
use Rattle.level_draw.specs.Chains.{AreSingle, HaveRoom, AreNext, leaves_child}

clash : {b : Bool} → b ≡ true → b ≡ false → ⊥
clash t f = let bad : true ≡ false = sym t ∙ f in absurd cc

pub next_start : (s : Parts) (firsts outs : List ℕ) → HaveRoom s firsts outs → AreNext s 0 firsts outs
next_start s firsts outs room = record { room = room; first_is = λ k h. absurd (omega (arith, h)); out_is = λ k h. absurd (omega (arith, h)) }

-- a number that is set at its own key is found there, and those at other keys stay
noted : (key : ℕ → ℕ) (xs : List ℕ) (n k : ℕ) → key n < length xs → (key k ≡ key n → k ≡ n) → (k ≢ n → get_or xs (key k) 0 ≡ k) → get_or (set xs (key n) n) (key k) 0 ≡ k
noted key xs n k inside one before =
    elim (cases_eq k n) [
      | inl e ↦ ap (λ i. get_or (set xs (key n) n) (key i) 0) e ∙ get_or-set_same xs (key n) n 0 inside ∙ sym e
      | inr ne ↦ get_or-set_other xs (key n) (key k) n 0 (λ same. ne (one same)) ∙ before ne
    ]

earlier : (n k : ℕ) → k < n + 1 → k ≢ n → k < n
earlier n k h ne = elim (cases_lt k n) [
  | inl less ↦ less
  | inr most ↦ absurd (ne (omega (arith, h, most)))
]

within : (n k m : ℕ) → k < n + 1 → n < m → k < m
within n k m h less = omega (arith, h, less)

module _ (s : Parts) (single : AreSingle s) (tails : (k : ℕ) → k < length s.layered.links → (link_at s.layered.links k).tail < length s.layered.units) (n : ℕ) (h : n < length s.layered.links) (firsts outs : List ℕ) (are : AreNext s n firsts outs) where
  first_more : leaves_child s n ≡ true → AreNext s (n + 1) (set firsts (link_at s.layered.links n).edge n) outs
  first_more leaves =
      let inside = single.edges n h in
      let many = are.room.by_edge in
      record {
        room = record { by_edge = length-set firsts (link_at s.layered.links n).edge n ∙ are.room.by_edge; by_unit = are.room.by_unit };
        first_is = λ k less child.
            noted (λ i. (link_at s.layered.links i).edge) firsts n k (omega (arith, inside, many))
            (λ same. single.firsts k n (within n k _ less h) h child leaves same)
            (λ ne. are.first_is k (earlier n k less ne) child);
        out_is = λ k less lane. are.out_is k (earlier n k less (λ e. clash leaves (sym (ap (leaves_child s) e) ∙ lane))) lane;
      }

  out_more : leaves_child s n ≡ false → AreNext s (n + 1) firsts (set outs (link_at s.layered.links n).tail n)
  out_more leaves =
      let inside = tails n h in
      let many = are.room.by_unit in
      record {
        room = record { by_edge = are.room.by_edge; by_unit = length-set outs (link_at s.layered.links n).tail n ∙ are.room.by_unit };
        first_is = λ k less child. are.first_is k (earlier n k less (λ e. clash child (ap (leaves_child s) e ∙ leaves))) child;
        out_is = λ k less lane.
            noted (λ i. (link_at s.layered.links i).tail) outs n k (omega (arith, inside, many))
            (λ same. single.outs k n (within n k _ less h) h lane leaves same)
            (λ ne. are.out_is k (earlier n k less ne) lane);
      }

  pub next_more : (firsts' outs' : List ℕ)
      → firsts' ≡ cond (leaves_child s n) (set firsts (link_at s.layered.links n).edge n) firsts
      → outs' ≡ cond (leaves_child s n) outs (set outs (link_at s.layered.links n).tail n) → AreNext s (n + 1) firsts' outs'
  next_more firsts' outs' e f = step (leaves_child s n) refl e f
    where
      step : (b : Bool) → leaves_child s n ≡ b → firsts' ≡ cond b (set firsts (link_at s.layered.links n).edge n) firsts → outs' ≡ cond b outs (set outs (link_at s.layered.links n).tail n) → AreNext s (n + 1) firsts' outs'
      step true leaves e f = subst (λ xs. AreNext s (n + 1) xs outs') (sym e) (subst (λ xs. AreNext s (n + 1) (set firsts (link_at s.layered.links n).edge n) xs) (sym f) (first_more leaves))
      step false leaves e f = subst (λ xs. AreNext s (n + 1) xs outs') (sym e) (subst (λ xs. AreNext s (n + 1) firsts xs) (sym f) (out_more leaves))
