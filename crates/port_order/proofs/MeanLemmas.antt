-- A mean that is rounded down to fine units keeps its place among means of smaller counts.
use Rattle.std.proofs.Common.{◌≡◌, ◌<◌, ◌≤◌, ◌+◌, ◌*◌, ◌/◌, ◌^◌, ℕ, arith, inl, inr}
use Rattle.std.proofs.lemmas.Nat.{div-add-mod'}
use Rattle.std.proofs.lemmas.Bool.{cases_lt, cases_order}
use Rattle.std.proofs.Math.Nat.{div-mul-le_self, mod-lt, mul-le-mul_left}
use Rattle.port_order.specs.declared.spots.Mean.{Mean}
use Rattle.port_order.specs.Ranks.{fine_mean}

-- a and b are sums, c and d their counts, p and q the fine means, and each unit of 1 has k fine units
crosswise_less : (a b c d p q k : ℕ) → 0 < d → a * k < (p + 1) * c → q * d ≤ b * k → p < q → b * c ≤ a * d → ⊥
crosswise_less a b c d p q k pd high low less bad =
    let l1 : q * d * c ≤ b * k * c = omega (arith, mul-le-mul_left {m = q * d} {n = b * k} c low) in
    let l2 : b * c * k ≤ a * d * k = omega (arith, mul-le-mul_left {m = b * c} {n = a * d} k bad) in
    let l3 : (a * k + 1) * d ≤ (p + 1) * c * d = omega (arith, mul-le-mul_left {m = a * k + 1} {n = (p + 1) * c} d (omega (arith, high))) in
    let l4 : (p + 1) * (c * d) ≤ q * (c * d) = omega (arith, mul-le-mul_left {m = p + 1} {n = q} (c * d) (omega (arith, less))) in
    omega (arith, l1, l2, l3, l4, pd)

-- where the fine means are equal, the one mean is not less than the other
not_less : (a b c d p k : ℕ) → c * d ≤ k → 0 < c → p * c ≤ a * k → b * k < (p + 1) * d → a * d < b * c → ⊥
not_less a b c d p k fine pc low high less =
    let l1 : (a * d + 1) * k ≤ b * c * k = omega (arith, mul-le-mul_left {m = a * d + 1} {n = b * c} k (omega (arith, less))) in
    let l2 : p * c * d ≤ a * k * d = omega (arith, mul-le-mul_left {m = p * c} {n = a * k} d low) in
    let l3 : (b * k + 1) * c ≤ (p + 1) * d * c = omega (arith, mul-le-mul_left {m = b * k + 1} {n = (p + 1) * d} c (omega (arith, high))) in
    omega (arith, l1, l2, l3, fine, pc)

low_of : (n c : ℕ) → n / c * c ≤ n
low_of n c = div-mul-le_self n c

high_of : (n c : ℕ) → 0 < c → n < (n / c + 1) * c
high_of n c h = omega (arith, div-add-mod' n c, mod-lt n h)

pub mean_less : (m n : Mean) → 1 ≤ m.count → 1 ≤ n.count → fine_mean m < fine_mean n → m.sum * n.count < n.sum * m.count
mean_less m n pm pn h =
    elim (cases_lt (m.sum * n.count) (n.sum * m.count)) [
      | inl l ↦ l
      | inr g ↦ absurd (crosswise_less m.sum n.sum m.count n.count (fine_mean m) (fine_mean n) (2 ^ 64) pn (high_of (m.sum * 2 ^ 64) m.count pm) (low_of (n.sum * 2 ^ 64) n.count) h g)
    ]

pub mean_same : (m n : Mean) → 1 ≤ m.count → 1 ≤ n.count → m.count < 2 ^ 32 → n.count < 2 ^ 32 → fine_mean m ≡ fine_mean n → m.sum * n.count ≡ n.sum * m.count
mean_same m n pm pn bm bn e =
    let fine : m.count * n.count ≤ 2 ^ 64 = omega (arith, mul-le-mul_left {m = m.count} {n = 2 ^ 32} n.count (omega (arith, bm)), mul-le-mul_left {m = n.count} {n = 2 ^ 32} (2 ^ 32) (omega (arith, bn))) in
    let back : n.count * m.count ≤ 2 ^ 64 = omega (arith, fine) in
    let low_m = low_of (m.sum * 2 ^ 64) m.count in
    let low_n = low_of (n.sum * 2 ^ 64) n.count in
    let high_m = high_of (m.sum * 2 ^ 64) m.count pm in
    let high_n = high_of (n.sum * 2 ^ 64) n.count pn in
    elim (cases_order (m.sum * n.count) (n.sum * m.count)) [
      | inl same ↦ same
      | inr (inl less) ↦ absurd (not_less m.sum n.sum m.count n.count (fine_mean m) (2 ^ 64) fine pm low_m (rw (← e) at high_n) less)
      | inr (inr less) ↦ absurd (not_less n.sum m.sum n.count m.count (fine_mean n) (2 ^ 64) back pn low_n (rw e at high_m) less)
    ]
