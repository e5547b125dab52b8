-- Filters over ranges that keep one number or none.
use Rattle.std.proofs.Common.{◌≡◌, ⊎_elim, inl, inr, ℕ, zero, suc, ◌+◌, ◌<◌, ◌≤◌, cond, Bool, true, [], ◌∷◌, ◌++◌, refl, ap, ◌∙◌, arith}
use Rattle.std.proofs.lemmas.Bool.{cases_Bool, cases_eq, false_from_ne_true}
use Rattle.std.specs.List.{filter, range_with_len}

pub filter_none : (test : ℕ → Bool) (a n : ℕ) → ((k : ℕ) → a ≤ k → k < a + n → test k ≡ true → ⊥) → filter test (range_with_len a n) ≡ []
filter_none test a zero h = refl
filter_none test a (suc n) h =
    rw (false_from_ne_true (test a) (h a (omega arith) (omega arith))) (filter_none test (a + 1) n (λ k low high. h k (omega (arith, low)) (omega (arith, high))))

pub filter_one : (test : ℕ → Bool) (a n k : ℕ) → a ≤ k → k < a + n → test k ≡ true → ((j : ℕ) → a ≤ j → j < a + n → test j ≡ true → j ≡ k)
    → filter test (range_with_len a n) ≡ k ∷ []
filter_one test a zero k low high keeps only = absurd (omega (arith, low, high))
filter_one test a (suc n) k low high keeps only =
    elim (cases_eq a k) [
      | inl same ↦
          rw (ap test same ∙ keeps)
          (ap (λ ks. a ∷ ks) (filter_none test (a + 1) n (λ j from to t. let e = only j (omega (arith, from)) (omega (arith, to)) t in absurd (omega (arith, from, e, same))))
          ∙ ap (λ i. i ∷ []) same)
      | inr other ↦
          rw (false_from_ne_true (test a) (λ t. other (only a (omega arith) (omega arith) t)))
          (filter_one test (a + 1) n k (omega (arith, low, other)) (omega (arith, high)) keeps (λ j from to t. only j (omega (arith, from)) (omega (arith, to)) t))
    ]

pub filter_last : (test : ℕ → Bool) (a n : ℕ) → filter test (range_with_len a (n + 1)) ≡ filter test (range_with_len a n) ++ cond (test (a + n)) ((a + n) ∷ []) []
filter_last test a n = let next : n + 1 ≡ suc n = omega arith in ap (λ m. filter test (range_with_len a m)) next ∙ step test a n
  where
    step : (test : ℕ → Bool) (a n : ℕ) → filter test (range_with_len a (suc n)) ≡ filter test (range_with_len a n) ++ cond (test (a + n)) ((a + n) ∷ []) []
    step test a zero = let same : a ≡ a + 0 = omega arith in ap (λ i. cond (test i) (i ∷ []) []) same
    step test a (suc n) =
        let at : (a + 1) + n ≡ a + suc n = omega arith in
        let rest : filter test (range_with_len (a + 1) (suc n)) ≡ filter test (range_with_len (a + 1) n) ++ cond (test (a + suc n)) ((a + suc n) ∷ []) [] =
        step test (a + 1) n ∙ ap (λ i. filter test (range_with_len (a + 1) n) ++ cond (test i) (i ∷ []) []) at
        in
        ⊎_elim
        (λ t. rw t (ap (λ ks. a ∷ ks) rest))
        (λ f. rw f rest)
        (cases_Bool (test a))
