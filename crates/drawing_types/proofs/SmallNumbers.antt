-- Cases on tests and on small numbers.
use Rattle.std.proofs.Common.{◌≡◌, Bool, true, false, ◌⊎◌, inl, inr, refl, ℕ, zero, suc, ◌<◌, arith}

pub bool_cases : (b : Bool) → (b ≡ true) ⊎ (b ≡ false)
bool_cases true = inl refl
bool_cases false = inr refl

-- what holds at each number below a small bound
pub below1 : (P : ℕ → Type 0) → P 0 → (k : ℕ) → k < 1 → P k
below1 P a zero h = a
below1 P a (suc k) h = absurd (omega arith)

pub below2 : (P : ℕ → Type 0) → P 0 → P 1 → (k : ℕ) → k < 2 → P k
below2 P a b zero h = a
below2 P a b (suc zero) h = b
below2 P a b (suc (suc k)) h = absurd (omega arith)

pub below3 : (P : ℕ → Type 0) → P 0 → P 1 → P 2 → (k : ℕ) → k < 3 → P k
below3 P a b c zero h = a
below3 P a b c (suc zero) h = b
below3 P a b c (suc (suc zero)) h = c
below3 P a b c (suc (suc (suc k))) h = absurd (omega arith)
