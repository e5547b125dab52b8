-- A list without repeats is no longer than what its keys come from.
use Rattle.std.proofs.Common.{◌≡◌, ◌≢◌, ℕ, zero, suc, ◌+◌, ◌≤◌, eqb, eq-eqb, cond, List, [], ◌∷◌, length, get_or, Option, None, is_some, arith, refl, sym, ap, ◌∙◌, inl, inr}
use Rattle.std.specs.List.{count_by}
use Rattle.std.proofs.lemmas.Bool.{cases_eq}
use Rattle.std.proofs.lemmas.List.Sums.{sum_by-cons}
use Rattle.graph_arena.specs.Graph.{occurs}
use Rattle.graph_arena.proofs.Chains.{occurs_head, eqb_other}

-- the keys above 0, each lowered by one
lower : List ℕ → List ℕ
lower [] = []
lower (zero ∷ ks) = lower ks
lower (suc k ∷ ks) = k ∷ lower ks

lower_length : (ks : List ℕ) → length ks ≡ occurs 0 ks + length (lower ks)
unfolding lower
lower_length [] = refl
lower_length (zero ∷ ks) = omega (arith, lower_length ks)
lower_length (suc k ∷ ks) = rw (eqb_other (suc k) 0 (omega arith)) (omega (arith, lower_length ks))

both_lower : (j k : ℕ) → eqb j k ≡ eqb (suc j) (suc k)
both_lower j k =
    elim (cases_eq j k) [
      | inl e ↦ eq-eqb j k e ∙ sym (eq-eqb (suc j) (suc k) (ap suc e))
      | inr n ↦ let m : suc j ≢ suc k = λ h. n (omega (arith, h)) in eqb_other j k n ∙ sym (eqb_other (suc j) (suc k) m)
    ]

lower_occurs : (k : ℕ) (ks : List ℕ) → occurs k (lower ks) ≡ occurs (suc k) ks
unfolding lower
lower_occurs k [] = refl
lower_occurs k (zero ∷ ks) = rw (eqb_other 0 (suc k) (omega arith)) (omega (arith, lower_occurs k ks))
lower_occurs k (suc j ∷ ks) = rw (both_lower j k) (omega (arith, lower_occurs k ks))

-- 1 where the slot is used, else 0
abbrev pub if_used : {T : Type 0} → Option T → ℕ
if_used o = cond (is_some o) 1 0

pub used_keys : {T : Type 0} (slots : List (Option T)) (ks : List ℕ) → ((k : ℕ) → occurs k ks ≤ if_used (get_or slots k None)) → length ks ≤ count_by is_some slots
used_keys [] [] h = omega arith
used_keys [] (k ∷ ks) h = absurd (omega (arith, h k, occurs_head k ks))
used_keys (o ∷ os) ks h =
    let rest = used_keys os (lower ks) (λ k. omega (arith, h (suc k), lower_occurs k ks)) in
    rw (sum_by-cons (λ x. cond (is_some x) 1 0) o os) (omega (arith, rest, h 0, lower_length ks))

-- a list of numbers below n, none twice, has at most n of them
pub few_below : (n : ℕ) (ks : List ℕ) → ((k : ℕ) → occurs k ks ≤ 1) → ((k : ℕ) → n ≤ k → occurs k ks ≡ 0) → length ks ≤ n
few_below zero [] once h = omega arith
few_below zero (k ∷ ks) once h = absurd (omega (arith, h k (omega arith), occurs_head k ks))
few_below (suc n) ks once h =
    let rest = few_below n (lower ks) (λ k. omega (arith, once (suc k), lower_occurs k ks)) (λ k l. lower_occurs k ks ∙ h (suc k) (omega arith)) in
    omega (arith, rest, once 0, lower_length ks)
