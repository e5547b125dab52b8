-- Sums over numbers below a bound.
use Rattle.std.proofs.Common.{◌≡◌, ◌≢◌, ℕ, zero, suc, ◌+◌, ◌*◌, ◌<◌, ◌≤◌, eqb, eq-eqb, cond, Bool, true, false, ℤ, pos, ◌+ℤ◌, arith, refl, sym, ap, inl, inr, ◌⊎◌}
use Rattle.std.proofs.lemmas.Int.{ints}
use Rattle.std.proofs.lemmas.Bool.{cases_eq}
use Rattle.std.proofs.lemmas.Bool.Decides.{nat_tests}
use Rattle.elk_doc.specs.Numbers.{sum_below, total_below}
use Rattle.drawing_types.proofs.SmallNumbers.{bool_cases}

-- the sum over all numbers below n
abbrev pub over : (ℕ → ℕ) → ℕ → ℕ
over g zero = 0
over g (suc n) = over g n + g n

pub over_same : (g k : ℕ → ℕ) (n : ℕ) → ((v : ℕ) → v < n → g v ≡ k v) → over g n ≡ over k n
over_same g k zero h = refl
over_same g k (suc n) h =
    let a = over_same g k n (λ v l. h v (omega arith)) in
    let b = h n (omega arith) in
    omega (arith, a, b)

pub over_sum : (g k : ℕ → ℕ) (n : ℕ) → over (λ v. g v + k v) n ≡ over g n + over k n
over_sum g k zero = refl
over_sum g k (suc n) = let a = over_sum g k n in omega (arith, a)

pub over_none : (g : ℕ → ℕ) (n : ℕ) → ((v : ℕ) → v < n → g v ≡ 0) → over g n ≡ 0
over_none g zero h = refl
over_none g (suc n) h =
    let a = over_none g n (λ v l. h v (omega arith)) in
    let b = h n (omega arith) in
    omega (arith, a, b)

pub eqb_other : (m n : ℕ) → m ≢ n → eqb m n ≡ false
eqb_other m n h = grind (arith, nat_tests, h)

over_past : (u : ℕ → ℕ) (a at n : ℕ) → n ≤ at → over (λ v. cond (eqb at v) a 0 * u v) n ≡ 0
over_past u a at n h = over_none (λ v. cond (eqb at v) a 0 * u v) n (λ v l. let ne : at ≢ v = omega arith in rw (eqb_other at v ne) (omega arith))

-- an amount at one number
pub over_one : (u : ℕ → ℕ) (a at n : ℕ) → at < n → over (λ v. cond (eqb at v) a 0 * u v) n ≡ a * u at
over_one u a at zero h = absurd (omega arith)
over_one u a at (suc n) h =
    elim (cases_eq at n) [
      | inl e ↦
          let before = over_past u a at n (omega arith) in
          let here : eqb at n ≡ true = eq-eqb at n e in
          let same : u n ≡ u at = ap u (sym e) in
          rw here (rw same (omega (arith, before)))
      | inr ne ↦
          let b = over_one u a at n (omega arith) in
          let z : eqb at n ≡ false = eqb_other at n ne in
          rw z (omega (arith, b))
    ]

-- one number more in a sum over those that pass
pub sum_below-zero : (p : ℕ → Bool) (f : ℕ → ℕ) → sum_below p f 0 ≡ 0
unfolding sum_below
sum_below-zero p f = refl

pub sum_below-suc : (p : ℕ → Bool) (f : ℕ → ℕ) (n : ℕ) → sum_below p f (suc n) ≡ sum_below p f n + cond (p n) (f n) 0
unfolding sum_below
sum_below-suc p f n = refl

pub sum_below-pass : (p : ℕ → Bool) (f : ℕ → ℕ) (n : ℕ) → p n ≡ true → sum_below p f (suc n) ≡ sum_below p f n + f n
unfolding sum_below
sum_below-pass p f n e = rw e refl

pub sum_below-fail : (p : ℕ → Bool) (f : ℕ → ℕ) (n : ℕ) → p n ≡ false → sum_below p f (suc n) ≡ sum_below p f n
unfolding sum_below
sum_below-fail p f n e = rw e (omega arith)

pub total_below-zero : (p : ℕ → Bool) (f : ℕ → ℤ) → total_below p f 0 ≡ pos 0
unfolding total_below
total_below-zero p f = refl

pub total_below-pass : (p : ℕ → Bool) (f : ℕ → ℤ) (n : ℕ) → p n ≡ true → total_below p f (suc n) ≡ total_below p f n +ℤ f n
unfolding total_below
total_below-pass p f n e = rw e refl

pub total_below-fail : (p : ℕ → Bool) (f : ℕ → ℤ) (n : ℕ) → p n ≡ false → total_below p f (suc n) ≡ total_below p f n
unfolding total_below
total_below-fail p f n e = rw e (omega (arith, ints))

-- sums of functions that add up, or of which one is nowhere greater
pub sum_below-split : (p : ℕ → Bool) (f g k : ℕ → ℕ) (m : ℕ) → ((e : ℕ) → e < m → p e ≡ true → f e ≡ g e + k e) → sum_below p f m ≡ sum_below p g m + sum_below p k m
sum_below-split p f g k zero h = omega (arith, sum_below-zero p f, sum_below-zero p g, sum_below-zero p k)
sum_below-split p f g k (suc m) h =
    let rest = sum_below-split p f g k m (λ e l. h e (omega arith)) in
    elim (bool_cases (p m)) [
      | inl y ↦ let here = h m (omega arith) y in omega (arith, rest, here, sum_below-pass p f m y, sum_below-pass p g m y, sum_below-pass p k m y)
      | inr n ↦ omega (arith, rest, sum_below-fail p f m n, sum_below-fail p g m n, sum_below-fail p k m n)
    ]

pub sum_below-le : (p : ℕ → Bool) (f g : ℕ → ℕ) (m : ℕ) → ((e : ℕ) → e < m → p e ≡ true → f e ≤ g e) → sum_below p f m ≤ sum_below p g m
sum_below-le p f g zero h = omega (arith, sum_below-zero p f, sum_below-zero p g)
sum_below-le p f g (suc m) h =
    let rest = sum_below-le p f g m (λ e l. h e (omega arith)) in
    elim (bool_cases (p m)) [
      | inl y ↦ let here = h m (omega arith) y in omega (arith, rest, here, sum_below-pass p f m y, sum_below-pass p g m y)
      | inr n ↦ omega (arith, rest, sum_below-fail p f m n, sum_below-fail p g m n)
    ]

-- a sum over more numbers, which add nothing
pub sum_below-more : (p q : ℕ → Bool) (f : ℕ → ℕ) (m : ℕ) → ((e : ℕ) → e < m → (p e ≡ q e) ⊎ ((p e ≡ true) × (q e ≡ false) × (f e ≡ 0))) → sum_below p f m ≡ sum_below q f m
sum_below-more p q f zero h = omega (arith, sum_below-zero p f, sum_below-zero q f)
sum_below-more p q f (suc m) h =
    let rest = sum_below-more p q f m (λ e l. h e (omega arith)) in
    elim (h m (omega arith)) [
      | inl same ↦ omega (arith, rest, sum_below-suc p f m, sum_below-suc q f m, ap (λ b. cond b (f m) 0) same)
      | inr t ↦ omega (arith, rest, sum_below-pass p f m t.0, sum_below-fail q f m t.1, t.2)
    ]
