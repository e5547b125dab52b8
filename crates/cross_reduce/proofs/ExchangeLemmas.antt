-- The difference of the crossings that an exchange of two neighbours makes.
use Rattle.std.proofs.Common.{◌≡◌, ◌≢◌, ℕ, ◌+◌, ◌*◌, ◌<◌, ◌⊎◌, false, ◌&&◌, refl, arith, sym, inl, inr, ltb, eqb, eq-eqb}
use Rattle.std.proofs.lemmas.Bool.{cases_lt, le-ltb, lt-ltb, ne_eqb, and_right}
use Rattle.cross_reduce.proofs.Sums.{one_if}

-- a place before and after the exchange of the places i and i + 1
abbrev pub Moves : ℕ → ℕ → ℕ → Type 0
Moves i p p' = ((p ≡ i) × (p' ≡ i + 1)) ⊎ (((p ≡ i + 1) × (p' ≡ i)) ⊎ ((p ≢ i) × (p ≢ i + 1) × (p' ≡ p)))

-- two tests that agree
less_same : (a b c d : ℕ) → (a < b → c < d) → (c < d → a < b) → ltb a b ≡ ltb c d
less_same a b c d f g =
    elim (cases_lt a b) [
      | inl l ↦ rw (lt-ltb a b l, lt-ltb c d (f l)) refl
      | inr h ↦ rw (le-ltb a b h) (elim (cases_lt c d) [
        | inl l ↦ absurd (let k : a < b = g l in omega (arith, k, h))
        | inr k ↦ sym (le-ltb c d k)
      ])
    ]

-- the comparison of two keys before and after
pub compared : (i p q m n p' q' : ℕ) → m < 65536 → n < 65536 → Moves i p p' → Moves i q q'
    → one_if (ltb (p * 65536 + m) (q * 65536 + n)) + one_if (eqb p (i + 1) && eqb q i) ≡ one_if (ltb (p' * 65536 + m) (q' * 65536 + n)) + one_if (eqb p i && eqb q (i + 1))
compared i p q m n p' q' hm hn (inl a) (inl b) =
    rw (
      ne_eqb p (i + 1) (λ e. omega (arith, a, e)),
      ne_eqb q (i + 1) (λ e. omega (arith, b, e)),
      and_right (eqb p i) false refl,
      less_same (p * 65536 + m) (q * 65536 + n) (p' * 65536 + m) (q' * 65536 + n) (λ h. omega (arith, a, b, h)) (λ h. omega (arith, a, b, h)),
    ) refl
compared i p q m n p' q' hm hn (inl a) (inr (inl b)) =
    rw (
      ne_eqb p (i + 1) (λ e. omega (arith, a, e)),
      eq-eqb p i a.0,
      eq-eqb q (i + 1) b.0,
      lt-ltb (p * 65536 + m) (q * 65536 + n) (omega (arith, a, b, hm)),
      le-ltb (p' * 65536 + m) (q' * 65536 + n) (omega (arith, a, b, hn)),
    ) refl
compared i p q m n p' q' hm hn (inl a) (inr (inr b)) =
    rw (
      ne_eqb p (i + 1) (λ e. omega (arith, a, e)),
      ne_eqb q (i + 1) b.1,
      and_right (eqb p i) false refl,
      less_same (p * 65536 + m) (q * 65536 + n) (p' * 65536 + m) (q' * 65536 + n) (λ h. far_up i p q m n p' q' a b hm hn h) (λ h. far_down i p q m n p' q' a b hm hn h),
    ) refl
  where
    far_up : (i p q m n p' q' : ℕ) → (p ≡ i) × (p' ≡ i + 1) → (q ≢ i) × (q ≢ i + 1) × (q' ≡ q) → m < 65536 → n < 65536 → p * 65536 + m < q * 65536 + n → p' * 65536 + m < q' * 65536 + n
    far_up i p q m n p' q' a b hm hn h = omega (arith, a.0, a.1, b.0, b.1, b.2, hm, hn, h)

    far_down : (i p q m n p' q' : ℕ) → (p ≡ i) × (p' ≡ i + 1) → (q ≢ i) × (q ≢ i + 1) × (q' ≡ q) → m < 65536 → n < 65536 → p' * 65536 + m < q' * 65536 + n → p * 65536 + m < q * 65536 + n
    far_down i p q m n p' q' a b hm hn h = omega (arith, a.0, a.1, b.0, b.1, b.2, hm, hn, h)
compared i p q m n p' q' hm hn (inr (inl a)) (inl b) =
    rw (
      eq-eqb p (i + 1) a.0,
      eq-eqb q i b.0,
      ne_eqb p i (λ e. omega (arith, a, e)),
      le-ltb (p * 65536 + m) (q * 65536 + n) (omega (arith, a, b, hn)),
      lt-ltb (p' * 65536 + m) (q' * 65536 + n) (omega (arith, a, b, hm)),
    ) refl
compared i p q m n p' q' hm hn (inr (inl a)) (inr (inl b)) =
    rw (
      ne_eqb q i (λ e. omega (arith, b, e)),
      ne_eqb p i (λ e. omega (arith, a, e)),
      and_right (eqb p (i + 1)) false refl,
      less_same (p * 65536 + m) (q * 65536 + n) (p' * 65536 + m) (q' * 65536 + n) (λ h. omega (arith, a, b, h)) (λ h. omega (arith, a, b, h)),
    ) refl
compared i p q m n p' q' hm hn (inr (inl a)) (inr (inr b)) =
    rw (
      ne_eqb q i b.0,
      ne_eqb p i (λ e. omega (arith, a, e)),
      and_right (eqb p (i + 1)) false refl,
      less_same (p * 65536 + m) (q * 65536 + n) (p' * 65536 + m) (q' * 65536 + n) (λ h. omega (arith, a.0, a.1, b.0, b.1, b.2, hm, hn, h)) (λ h. omega (arith, a.0, a.1, b.0, b.1, b.2, hm, hn, h)),
    ) refl
compared i p q m n p' q' hm hn (inr (inr a)) (inl b) =
    rw (
      ne_eqb p (i + 1) a.1,
      ne_eqb p i a.0,
      less_same (p * 65536 + m) (q * 65536 + n) (p' * 65536 + m) (q' * 65536 + n) (λ h. omega (arith, b.0, b.1, a.0, a.1, a.2, hm, hn, h)) (λ h. omega (arith, b.0, b.1, a.0, a.1, a.2, hm, hn, h)),
    ) refl
compared i p q m n p' q' hm hn (inr (inr a)) (inr (inl b)) =
    rw (
      ne_eqb p (i + 1) a.1,
      ne_eqb p i a.0,
      less_same (p * 65536 + m) (q * 65536 + n) (p' * 65536 + m) (q' * 65536 + n) (λ h. omega (arith, b.0, b.1, a.0, a.1, a.2, hm, hn, h)) (λ h. omega (arith, b.0, b.1, a.0, a.1, a.2, hm, hn, h)),
    ) refl
compared i p q m n p' q' hm hn (inr (inr a)) (inr (inr b)) =
    rw (ne_eqb p (i + 1) a.1, ne_eqb p i a.0, a.2, b.2) refl
