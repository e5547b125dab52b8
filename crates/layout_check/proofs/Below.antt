-- What holds at each number below a small bound.
use Rattle.std.proofs.Common.{ℕ, zero, suc, ◌<◌, arith}
use Rattle.drawing_types.proofs.SmallNumbers.{below3}

pub below4 : (P : ℕ → Type 0) → P 0 → P 1 → P 2 → P 3 → (k : ℕ) → k < 4 → P k
below4 P a b c d zero h = a
below4 P a b c d (suc k) h = below3 (λ (j : ℕ). P (suc j)) b c d k (omega arith)
