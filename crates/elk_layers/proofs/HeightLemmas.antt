-- Each unit is at most as high as all units together.
use Rattle.std.proofs.Common.{ℕ, suc, zero, ◌<◌, ◌^◌, pos, ◌≤ℤ◌, ◌<ℤ◌, List, [], ◌∷◌, length, arith}
use Rattle.std.proofs.lemmas.Int.{ints}
use Rattle.elk_layers.specs.declared.units.Unit.{Unit as LayerUnit}
use Rattle.elk_layers.specs.Layered.{Plain, IsSound, unit_at, total_height}

pub total_from_zero : (units : List LayerUnit) → ((u : ℕ) → u < length units → pos 0 ≤ℤ (unit_at units u).height) → pos 0 ≤ℤ total_height units
total_from_zero [] h = omega (arith, ints)
total_from_zero (x ∷ units) h =
    let first = h 0 (omega arith) in
    let rest = total_from_zero units (λ u l. h (suc u) (omega (arith, l))) in
    omega (arith, ints, first, rest)

pub height_within_total : (units : List LayerUnit) → ((u : ℕ) → u < length units → pos 0 ≤ℤ (unit_at units u).height) → (u : ℕ) → u < length units → (unit_at units u).height ≤ℤ total_height units
height_within_total [] h u l = absurd (omega (arith, l))
height_within_total (x ∷ units) h zero l =
    let rest = total_from_zero units (λ u l. h (suc u) (omega (arith, l))) in
    omega (arith, ints, rest)
height_within_total (x ∷ units) h (suc u) l =
    let first = h 0 (omega arith) in
    let rest = height_within_total units (λ u l. h (suc u) (omega (arith, l))) u (omega (arith, l)) in
    omega (arith, ints, first, rest)

pub height_below : (l : Plain) → IsSound l → (u : ℕ) → u < length l.units → (unit_at l.units u).height <ℤ pos (2 ^ 56)
height_below l s u h =
    let a = height_within_total l.units s.heights u h in
    let b = s.together in
    omega (arith, ints, a, b)
