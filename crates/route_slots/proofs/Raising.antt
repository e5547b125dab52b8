-- The greatest of some heights, and one more.
use Rattle.std.proofs.Common.{◌≡◌, ◌⊎◌, inl, inr, ℤ, ◌≤ℤ◌, arith}
use Rattle.std.proofs.lemmas.Int.{ints, clamps, by_lt_z}
use Rattle.std.specs.Int.{int_max}

pub raised_above : (top a b new x : ℤ) → new ≡ int_max top (int_max a b) → x ≤ℤ top → x ≤ℤ new
raised_above top a b new x e h = omega (arith, ints, clamps)

pub raised_here : (top a b new : ℤ) → new ≡ int_max top (int_max a b) → (a ≤ℤ new) × (b ≤ℤ new)
raised_here top a b new e = (omega (arith, ints, clamps), omega (arith, ints, clamps))

pub raised_is : (top a b new : ℤ) → new ≡ int_max top (int_max a b) → (new ≡ top) ⊎ (new ≤ℤ int_max a b)
raised_is top a b new e =
    by_lt_z top (int_max a b)
    (λ l. inr (omega (arith, ints, clamps)))
    (λ l. inl (omega (arith, ints, clamps)))

pub raised_below : (top a b new high : ℤ) → new ≡ int_max top (int_max a b) → top ≤ℤ high → a ≤ℤ high → b ≤ℤ high → new ≤ℤ high
raised_below top a b new high e p q r = omega (arith, ints, clamps)
