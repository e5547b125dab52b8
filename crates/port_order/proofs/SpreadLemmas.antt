-- Offsets of spread spots lie on their side, and rise.
use Rattle.std.proofs.Common.{◌<◌, ◌≤◌, ◌+◌, ◌*◌, ◌/◌, ℕ, ℤ, pos, negsuc, ◌≤ℤ◌, ◌<ℤ◌, arith}
use Rattle.std.proofs.lemmas.Int.{ints}
use Rattle.std.proofs.lemmas.Nat.{le-div}
use Rattle.std.proofs.Math.Nat.{div-mul-le_self, mul-le-mul_left}
use Rattle.port_order.specs.Places.{spread_at}

part_rises : (len k i j : ℕ) → k + 1 ≤ len → i < j → (len * (i + 1)) / (k + 1) < (len * (j + 1)) / (k + 1)
part_rises len k i j long h =
    let low = div-mul-le_self (len * (i + 1)) (k + 1) in
    let next = mul-le-mul_left {m = i + 1 + 1} {n = j + 1} len (omega arith) in
    let q : (len * (i + 1)) / (k + 1) + 1 ≤ (len * (j + 1)) / (k + 1) = le-div ((len * (i + 1)) / (k + 1) + 1) (len * (j + 1)) (k + 1) (omega arith) (omega (arith, low, next, long)) in
    omega (arith, q)

part_up : (len k i j : ℕ) → i ≤ j → (len * (i + 1)) / (k + 1) ≤ (len * (j + 1)) / (k + 1)
part_up len k i j h =
    let low = div-mul-le_self (len * (i + 1)) (k + 1) in
    let next = mul-le-mul_left {m = i + 1} {n = j + 1} len (omega arith) in
    le-div ((len * (i + 1)) / (k + 1)) (len * (j + 1)) (k + 1) (omega arith) (omega (arith, low, next))

pub spread_rises : (len : ℤ) (k i j : ℕ) → pos (k + 1) ≤ℤ len → i < j → spread_at len k i <ℤ spread_at len k j
spread_rises (pos len) k i j long h = let p = part_rises len k i j (omega (arith, ints, long)) h in omega (arith, ints, p)
spread_rises (negsuc len) k i j long h = absurd (omega (arith, ints, long))

pub spread_up : (len : ℤ) (k i j : ℕ) → i ≤ j → spread_at len k i ≤ℤ spread_at len k j
spread_up (pos len) k i j h = let p = part_up len k i j h in omega (arith, ints, p)
spread_up (negsuc len) k i j h = omega (arith, ints)
