-- Sums of numbers up to a bound, of which enough are 1.
use Rattle.std.proofs.Common.{◌≡◌, ◌⊎◌, ⊎_elim, inl, inr, ℕ, zero, suc, ◌+◌, ◌-◌, ◌*◌, ◌<◌, ◌≤◌, ◌^◌, eqb, ltb, cond, Bool, true, false, refl, ap, subst, ◌∙◌, arith}
use Rattle.std.proofs.lemmas.Bool.{cases_Bool, cases_eq, cases_lt, eq-eqb, eqb-true, le-ltb, lt-ltb, ltb-true}
use Rattle.std.proofs.lemmas.Nat.{mul-le}
use Rattle.layer_units.specs.Numbered.{before}
use Rattle.layer_units.proofs.SumLemmas.{before_bound}

-- the greatest of the first n values, and where it is taken
pub record Greatest (f : ℕ → ℕ) (n : ℕ) : Type 0 where
  pub most : ℕ
  pub bound : (e : ℕ) → e < n → f e ≤ most
  pub taken : (most ≡ 0) ⊎ ((e : ℕ) × (e < n) × (f e ≡ most))

pub greatest : (f : ℕ → ℕ) (n : ℕ) → Greatest f n
greatest f zero = record { most = 0; bound = λ e h. absurd (omega (arith, h)); taken = inl refl }
greatest f (suc n) =
    let rest = greatest f n in
    elim (cases_lt rest.most (f n)) [
      | inl less ↦ record {
        most = f n;
        bound = λ e h. elim (cases_eq e n) [
          | inl same ↦ (let here = ap f same in omega (arith, here))
          | inr other ↦ (let low = rest.bound e (omega (arith, h, other)) in omega (arith, low, less))
        ];
        taken = inr (n, omega arith, refl);
      }
      | inr most ↦ record {
        most = rest.most;
        bound = λ e h. elim (cases_eq e n) [
          | inl same ↦ (let here = ap f same in omega (arith, here, most))
          | inr other ↦ rest.bound e (omega (arith, h, other))
        ];
        taken = ⊎_elim (λ none. inl none) (λ (t : (e : ℕ) × (e < n) × (f e ≡ rest.most)). let inside = t.1 in inr (t.0, omega (arith, inside), t.2)) rest.taken;
      }
    ]

-- a number below n that a test passes, or none
pub found_below : (test : ℕ → Bool) (n : ℕ) → ((e : ℕ) × (e < n) × (test e ≡ true)) ⊎ ((e : ℕ) → e < n → test e ≡ false)
found_below test zero = inr (λ e h. absurd (omega (arith, h)))
found_below test (suc n) =
    ⊎_elim
    (λ (t : (e : ℕ) × (e < n) × (test e ≡ true)). let inside = t.1 in inl (t.0, omega (arith, inside), t.2))
    (λ (none : (e : ℕ) → e < n → test e ≡ false).
    elim (cases_Bool (test n)) [
      | inl on ↦ inl (n, omega arith, on)
      | inr off ↦ inr (λ e h. elim (cases_eq e n) [
        | inl same ↦ ap test same ∙ off
        | inr other ↦ none e (omega (arith, h, other))
      ])
    ])
    (found_below test n)

pub sum_grows : (f g : ℕ → ℕ) (n : ℕ) → ((e : ℕ) → e < n → f e ≤ g e) → before f n ≤ before g n
unfolding before
sum_grows f g zero h = omega arith
sum_grows f g (suc n) h =
    let rest = sum_grows f g n (λ e l. h e (omega (arith, l))) in
    let last = h n (omega arith) in
    omega (arith, rest, last)

sum_more : (f g : ℕ → ℕ) (n d : ℕ) → d < n → ((e : ℕ) → e < n → f e ≤ g e) → f d + 1 ≤ g d → before f n + 1 ≤ before g n
unfolding before
sum_more f g zero d h all more = absurd (omega (arith, h))
sum_more f g (suc n) d h all more =
    elim (cases_eq d n) [
      | inl same ↦
          let rest = sum_grows f g n (λ e l. all e (omega (arith, l))) in
          let last : f n + 1 ≤ g n = subst (λ m. f m + 1 ≤ g m) same more in
          omega (arith, rest, last)
      | inr other ↦
          let rest = sum_more f g n d (omega (arith, h, other)) (λ e l. all e (omega (arith, l))) more in
          let last = all n (omega arith) in
          omega (arith, rest, last)
    ]

-- ---- values at numbers that are known to be 1

-- 1 where the value is 1 and the place below m
pub step : (ℕ → ℕ) → (ℕ → ℕ) → ℕ → ℕ → ℕ
step g at m e = cond (eqb (g e) 1) (cond (ltb (at e) m) 1 0) 0

step_grows : (g at : ℕ → ℕ) (m e : ℕ) → step g at m e ≤ step g at (m + 1) e
unfolding step
step_grows g at m e =
    elim (cases_Bool (eqb (g e) 1)) [
      | inr f ↦ rw f (omega arith)
      | inl f ↦ elim (cases_Bool (ltb (at e) m)) [
        | inr k ↦ rw (f, k) (omega arith)
        | inl k ↦ let less = ltb-true (at e) m k in rw (f, k, lt-ltb (at e) (m + 1) (omega (arith, less))) (omega arith)
      ]
    ]

step_more : (g at : ℕ → ℕ) (m e : ℕ) → at e ≡ m → g e ≡ 1 → step g at m e + 1 ≤ step g at (m + 1) e
unfolding step
step_more g at m e here one =
    rw (eq-eqb (g e) 1 one, le-ltb (at e) m (omega (arith, here)), lt-ltb (at e) (m + 1) (omega (arith, here))) (omega arith)

-- where each place below m has a value that is 1, there are at least m of these
pub steps_are : (g at : ℕ → ℕ) (n m : ℕ) → ((j : ℕ) → j < m → (e : ℕ) × (e < n) × (at e ≡ j) × (g e ≡ 1)) → m ≤ before (step g at m) n
steps_are g at n zero has = omega arith
steps_are g at n (suc m) has =
    let rest = steps_are g at n m (λ j l. has j (omega (arith, l))) in
    let here = has m (omega arith) in
    let more = sum_more (step g at m) (step g at (m + 1)) n here.0 here.1 (λ e l. step_grows g at m e) (step_more g at m here.0 here.2 here.3) in
    let next : m + 1 ≡ suc m = omega arith in
    subst (λ k. suc m ≤ before (step g at k) n) next (omega (arith, rest, more))

step_small : (g at : ℕ → ℕ) (m e y : ℕ) → g e ≤ y + 1 → g e + step g at m e * y ≤ y + 1
unfolding step
step_small g at m e y h =
    elim (cases_Bool (eqb (g e) 1)) [
      | inr f ↦ rw f (omega (arith, h))
      | inl f ↦
          let one = eqb-true (g e) 1 f in
          elim (cases_Bool (ltb (at e) m)) [
            | inl k ↦ rw (f, k) (omega (arith, one))
            | inr k ↦ rw (f, k) (omega (arith, h))
          ]
    ]

sum_with : (g k : ℕ → ℕ) (y n : ℕ) → ((e : ℕ) → e < n → g e + k e * y ≤ y + 1) → before g n + before k n * y ≤ n * (y + 1)
unfolding before
sum_with g k y zero h = omega arith
sum_with g k y (suc n) h =
    let rest = sum_with g k y n (λ e l. h e (omega (arith, l))) in
    let last = h n (omega arith) in
    omega (arith, rest, last)

-- ---- how large such a sum can be

product_small : (a y : ℕ) → a + y ≡ 2048 → y + 1 ≤ 2047 → a * (y + 1) ≤ 2 ^ 21 - 2048
product_small a y is high =
    elim (cases_lt y 1023) [
      | inl low ↦ (let p = mul-le a (y + 1) 2048 1023 (omega (arith, is)) (omega (arith, low)) in omega (arith, p))
      | inr more ↦ elim (cases_lt y 1536) [
        | inl low ↦ (let p = mul-le a (y + 1) 1025 1536 (omega (arith, is, more)) (omega (arith, low)) in omega (arith, p))
        | inr top ↦ (let p = mul-le a (y + 1) 512 2047 (omega (arith, is, top)) high in omega (arith, p))
      ]
    ]

sum_small : (s k y n : ℕ) → s + k * y ≤ n * (y + 1) → y + 1 ≤ k → n ≤ 2048 → y + 1 ≤ 2047 → s ≤ 2 ^ 21 - 2048
sum_small s k y n sum enough few high =
    let a : ℕ = 2048 - y in
    let is : a + y ≡ 2048 = omega (arith, high) in
    let left = mul-le (y + 1) y k y enough (omega arith) in
    let right = mul-le n (y + 1) 2048 (y + 1) few (omega arith) in
    let split = ap (λ m. m * (y + 1)) is in
    let small = product_small a y is high in
    omega (arith, sum, left, right, split, small)

-- Numbers up to x, of which there are not many, have a small sum where each place below x has one that is 1.
pub ones_keep_small : (g at : ℕ → ℕ) (n x : ℕ) → n ≤ 2048 → x ≤ 2047 → ((e : ℕ) → e < n → g e ≤ x)
    → ((j : ℕ) → j < x → (e : ℕ) × (e < n) × (at e ≡ j) × (g e ≡ 1)) → before g n ≤ 2 ^ 21 - 2048
ones_keep_small g at n zero few high low has = let none = before_bound g n 0 low in omega (arith, none)
ones_keep_small g at n (suc y) few high low has =
    sum_small (before g n) (before (step g at (suc y)) n) y n
    (sum_with g (step g at (suc y)) y n (λ e l. step_small g at (suc y) e y (let h = low e l in omega (arith, h))))
    (let many = steps_are g at n (suc y) has in omega (arith, many))
    few (omega (arith, high))
