-- Sums of the first values, and the value in which a number below such a sum lies.
use Rattle.std.proofs.Common.{◌≡◌, ⊎_elim, inl, inr, ℕ, zero, suc, ◌+◌, ◌-◌, ◌*◌, ◌<◌, ◌≤◌, subst, ap, arith}
use Rattle.std.proofs.lemmas.Bool.{cases_eq, cases_lt}
use Rattle.layer_units.specs.Numbered.{before}

pub before_more : (f : ℕ → ℕ) (n : ℕ) → before f (n + 1) ≡ before f n + f n
unfolding before
before_more f n = let next : n + 1 ≡ suc n = omega arith in ap (before f) next

pub before_below : (f : ℕ → ℕ) (d n : ℕ) → d < n → before f d + f d ≤ before f n
unfolding before
before_below f d zero h = absurd (omega (arith, h))
before_below f d (suc n) h =
    elim (cases_eq d n) [
      | inl same ↦ subst (λ m. before f d + f d ≤ before f m + f m) same (omega arith)
      | inr other ↦ (let rest = before_below f d n (omega (arith, h, other)) in omega (arith, rest))
    ]

pub before_bound : (f : ℕ → ℕ) (n b : ℕ) → ((e : ℕ) → e < n → f e ≤ b) → before f n ≤ n * b
unfolding before
before_bound f zero b h = omega arith
before_bound f (suc n) b h =
    let rest = before_bound f n b (λ e less. h e (omega (arith, less))) in
    let last = h n (omega arith) in
    omega (arith, rest, last)

-- the value in which a number lies, and how far in it
pub record Place (f : ℕ → ℕ) (n x : ℕ) : Type 0 where
  pub item : ℕ
  pub inside : item < n
  pub rest : ℕ
  pub less : rest < f item
  pub place_is : x ≡ before f item + rest

pub placed : (f : ℕ → ℕ) (n x : ℕ) → x < before f n → Place f n x
unfolding before
placed f zero x h = absurd (omega (arith, h))
placed f (suc n) x h =
    ⊎_elim
    (λ (low : x < before f n).
    let p = placed f n x low in
    let i = p.inside in
    record { item = p.item; inside = omega (arith, i); rest = p.rest; less = p.less; place_is = p.place_is })
    (λ (high : before f n ≤ x). record { item = n; inside = omega arith; rest = x - before f n; less = omega (arith, h, high); place_is = omega (arith, high) })
    (cases_lt x (before f n))

pub placed_once : (f : ℕ → ℕ) (d e i j : ℕ) → i < f d → j < f e → before f d + i ≡ before f e + j → d ≡ e
placed_once f d e i j hi hj same =
    elim (cases_eq d e) [
      | inl e ↦ e
      | inr other ↦
          absurd
          (⊎_elim
          (λ (low : d < e). let below = before_below f d e low in omega (arith, below, hi, same))
          (λ (high : e ≤ d). let below = before_below f e d (omega (arith, high, other)) in omega (arith, below, hj, same))
          (cases_lt d e))
    ]

pub placed_rest : (f : ℕ → ℕ) (d e i j : ℕ) → i < f d → j < f e → before f d + i ≡ before f e + j → i ≡ j
placed_rest f d e i j hi hj same =
    let one = ap (before f) (placed_once f d e i j hi hj same) in
    omega (arith, one, same)
