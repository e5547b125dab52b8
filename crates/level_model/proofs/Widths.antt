-- How wide gaps with slots are, and how columns and gaps stand from left to right.
use Rattle.std.proofs.Common.{◌≡◌, ℕ, zero, suc, ◌-◌, ◌*◌, ◌<◌, ◌≤◌, eqb, cond, ℤ, pos, negsuc, ◌+ℤ◌, ◌*ℤ◌, ◌≤ℤ◌, ◌<ℤ◌, arith}
use Rattle.std.proofs.lemmas.Int.{ints, clamps}
use Rattle.std.proofs.lemmas.Bool.{ne_eqb}
use Rattle.std.proofs.Math.Nat.{mul-le-mul_left}
use Rattle.std.specs.Int.{int_max}

-- more steps of one length reach as far, or further
pub steps_up : (i j : ℕ) (z : ℤ) → i ≤ j → pos 0 ≤ℤ z → (pos i *ℤ z) ≤ℤ (pos j *ℤ z)
steps_up i j (pos n) h k = let more : n * i ≤ n * j = mul-le-mul_left n h in omega (arith, ints, more)
steps_up i j (negsuc n) h k = absurd (omega (arith, ints, k))

pub steps_less : (i j : ℕ) (z : ℤ) → i < j → pos 1 ≤ℤ z → (pos i *ℤ z) <ℤ (pos j *ℤ z)
steps_less i j (pos n) h k = let more : n * suc i ≤ n * j = mul-le-mul_left n h in omega (arith, ints, more, k)
steps_less i j (negsuc n) h k = absurd (omega (arith, ints, k))

pub steps_from_zero : (i : ℕ) (z : ℤ) → pos 0 ≤ℤ z → pos 0 ≤ℤ (pos i *ℤ z)
steps_from_zero i (pos n) k = omega (arith, ints)
steps_from_zero i (negsuc n) k = absurd (omega (arith, ints, k))

-- the room of n slots at an end of the level, and between two columns
abbrev pub outer_room : ℤ → ℤ → ℕ → ℤ
outer_room a s n = cond (eqb n 0) (pos 0) (a +ℤ (pos (n - 1) *ℤ s))

abbrev pub inner_room : ℤ → ℤ → ℤ → ℕ → ℤ
inner_room w a s n = cond (eqb n 0) w (int_max w (a +ℤ a +ℤ (pos (n - 1) *ℤ s)))

-- a slot of n, from the first one on
pub within_outer : (i n : ℕ) (a s : ℤ) → i < n → pos 1 ≤ℤ a → pos 1 ≤ℤ s → ((pos i *ℤ s) <ℤ outer_room a s n) × ((a +ℤ (pos i *ℤ s)) ≤ℤ outer_room a s n)
within_outer i zero a s h ha hs = absurd (omega (arith, h))
within_outer i (suc n) a s h ha hs =
    rw (ne_eqb (suc n) 0 (λ e. absurd (omega (arith, e))))
    (let same : suc n - 1 ≡ n = omega arith in
    rw same
    (let up = steps_up i n s (omega (arith, h)) (omega (arith, ints, hs)) in (omega (arith, ints, up, ha), omega (arith, ints, up, ha))))

pub outer_from_zero : (n : ℕ) (a s : ℤ) → pos 1 ≤ℤ a → pos 1 ≤ℤ s → pos 0 ≤ℤ outer_room a s n
outer_from_zero zero a s ha hs = omega (arith, ints)
outer_from_zero (suc n) a s ha hs =
    rw (ne_eqb (suc n) 0 (λ e. absurd (omega (arith, e))))
    (let some = steps_from_zero (suc n - 1) s (omega (arith, ints, hs)) in omega (arith, ints, some, ha))

pub within_inner : (i n : ℕ) (w a s : ℤ) → i < n → pos 1 ≤ℤ a → pos 1 ≤ℤ s → (a +ℤ (pos i *ℤ s)) <ℤ inner_room w a s n
within_inner i zero w a s h ha hs = absurd (omega (arith, h))
within_inner i (suc n) w a s h ha hs =
    rw (ne_eqb (suc n) 0 (λ e. absurd (omega (arith, e))))
    (let same : suc n - 1 ≡ n = omega arith in
    rw same
    (let up = steps_up i n s (omega (arith, h)) (omega (arith, ints, hs)) in omega (arith, ints, clamps, up, ha)))

pub inner_above : (n : ℕ) (w a s : ℤ) → pos 1 ≤ℤ w → pos 1 ≤ℤ inner_room w a s n
inner_above zero w a s hw = hw
inner_above (suc n) w a s hw = rw (ne_eqb (suc n) 0 (λ e. absurd (omega (arith, e)))) (omega (arith, ints, clamps, hw))

pub inner_more : (n : ℕ) (w a s : ℤ) → w ≤ℤ inner_room w a s n
inner_more zero w a s = omega (arith, ints)
inner_more (suc n) w a s = rw (ne_eqb (suc n) 0 (λ e. absurd (omega (arith, e)))) (omega (arith, ints, clamps))
