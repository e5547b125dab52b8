-- A number of distances, and heights of lanes, as the code computes them.
use Rattle.std.proofs.Common.{◌≡◌, ℕ, ℤ, ◌*◌, ◌-◌, ◌≤◌, ◌^◌, pos, negsuc, ◌+ℤ◌, ◌*ℤ◌, ◌≤ℤ◌, refl, ◌∙◌, ap, arith, SFits, w64, to_z, of_z}
use Rattle.std.proofs.Math.Nat.{mul-le-mul_left}
use Rattle.std.proofs.lemmas.Int.{ints, to_z-of_z, to_z_pos}
use Rattle.drawing_types.specs.Ranges.{IsWithin}

product : (n m : ℕ) → n ≤ 2 ^ 18 → m ≤ 2 ^ 20 → n * m ≤ 2 ^ 38
product n m h k = let a = mul-le-mul_left n k in omega (arith, a, h)

pub times_within : (n : ℕ) (z : ℤ) → n ≤ 2 ^ 18 → IsWithin (pos 1) (pos (2 ^ 20)) z → IsWithin (pos 0) (pos (2 ^ 38)) (pos n *ℤ z)
times_within n (pos m) h w = let most = w.below in let k : m ≤ 2 ^ 20 = omega (arith, ints, most) in let p = product n m h k in record { above = omega (arith, ints); below = omega (arith, ints, p) }
times_within n (negsuc m) h w = let least = w.above in absurd (omega (arith, ints, least))

pub times_computed : (n : ℕ) (z : ℤ) → n ≤ 2 ^ 18 → IsWithin (pos 1) (pos (2 ^ 20)) z
    → (SFits w64 (to_z w64 n *ℤ to_z w64 (of_z w64 z))) × (to_z w64 (of_z w64 (to_z w64 n *ℤ to_z w64 (of_z w64 z))) ≡ pos n *ℤ z)
times_computed n z h w =
    let p = times_within n z h w in
    let pa = p.above in
    let pb = p.below in
    let wa = w.above in
    let wb = w.below in
    let fz : SFits w64 z = omega (arith, ints, wa, wb) in
    let fp : SFits w64 (pos n *ℤ z) = fits (pos n *ℤ z) pa pb in
    rw (to_z_pos w64 n (omega (arith, h)), to_z-of_z w64 z fz, to_z-of_z w64 (pos n *ℤ z) fp) (fp, refl)
  where
    fits : (x : ℤ) → pos 0 ≤ℤ x → x ≤ℤ pos (2 ^ 38) → SFits w64 x
    fits x a b = omega (arith, ints, a, b)

-- a sum of two small lengths
pub sum_computed : (a b c : ℤ) → b ≡ c → IsWithin (pos 1) (pos (2 ^ 20)) a → IsWithin (pos 0) (pos (2 ^ 38)) b → to_z w64 (of_z w64 (to_z w64 (of_z w64 a) +ℤ to_z w64 (of_z w64 b))) ≡ a +ℤ c
sum_computed a b c e p q =
    let pa = p.above in
    let pb = p.below in
    let qa = q.above in
    let qb = q.below in
    let fa : SFits w64 a = omega (arith, ints, pa, pb) in
    let fb : SFits w64 b = omega (arith, ints, qa, qb) in
    let fs : SFits w64 (a +ℤ b) = omega (arith, ints, pa, pb, qa, qb) in
    rw (to_z-of_z w64 a fa, to_z-of_z w64 b fb, to_z-of_z w64 (a +ℤ b) fs, e) refl

-- a product with a distance that is handed on
pub times_read : (n : ℕ) (z x : ℤ) → IsWithin (pos 1) (pos (2 ^ 20)) z → x ≡ pos n *ℤ to_z w64 (of_z w64 z) → x ≡ pos n *ℤ z
times_read n z x w e = let wa = w.above in let wb = w.below in let fz : SFits w64 z = omega (arith, ints, wa, wb) in e ∙ ap (λ y. pos n *ℤ y) (to_z-of_z w64 z fz)

-- an outline's height that is handed on
pub height_kept : (h : ℤ) → IsWithin (pos 0) (pos (2 ^ 49 - 2 ^ 42)) h → IsWithin (pos 0) (pos (2 ^ 49 - 2 ^ 42)) (to_z w64 (of_z w64 h))
height_kept h w = let wa = w.above in let wb = w.below in let f : SFits w64 h = fits h wa wb in rw (to_z-of_z w64 h f) w
  where
    fits : (x : ℤ) → pos 0 ≤ℤ x → x ≤ℤ pos (2 ^ 49 - 2 ^ 42) → SFits w64 x
    fits x a b = omega (arith, ints, a, b)
