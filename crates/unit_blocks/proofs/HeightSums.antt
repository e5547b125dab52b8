-- The heights of the units up to a layer, added up.
use Rattle.std.proofs.Common.{◌≡◌, ℕ, zero, suc, ◌+◌, ◌<◌, ◌≤◌, ◌^◌, cond, nat_le, ℤ, pos, ◌+ℤ◌, ◌≤ℤ◌, ◌<ℤ◌, length, arith, refl, inl, inr, le-leb}
use Rattle.std.proofs.lemmas.Int.{ints}
use Rattle.std.proofs.lemmas.Bool.{cases_lt, lt-leb}
use Rattle.elk_layers.specs.Layered.{Plain, IsSound, layer_of, unit_at}
use Rattle.unit_blocks.specs.Joining.{height_up_to}
use Rattle.unit_blocks.proofs.SumLemmas.{sum_to, sum_gain, sum_below, sum_nothing, sum_heights}

module _ (l : Plain) (sound : IsSound l) where
  abbrev height : ℕ → ℤ
  height u = (unit_at l.units u).height

  -- a unit's height where it does not lie right of the layer, else 0
  abbrev share : ℕ → ℕ → ℤ
  share g w = cond (nat_le (layer_of l w) g) (height w) (pos 0)

  as_sum : (g n : ℕ) → height_up_to l g n ≡ sum_to n (share g)
  as_sum g zero = refl
  as_sum g (suc n) = let h = as_sum g n in omega (arith, ints, h)

  share_in : (g w : ℕ) → layer_of l w ≤ g → share g w ≡ height w
  share_in g w k = rw (le-leb (layer_of l w) g k) refl

  share_out : (g w : ℕ) → g < layer_of l w → share g w ≡ pos 0
  share_out g w k = rw (lt-leb (layer_of l w) g k) refl

  share_from_zero : (g w : ℕ) → w < length l.units → pos 0 ≤ℤ share g w
  share_from_zero g w h = elim (cases_lt g (layer_of l w)) [
    | inl k ↦ let e = share_out g w k in omega (arith, ints, e)
    | inr k ↦ let e = share_in g w k in let z = sound.heights w h in omega (arith, ints, e, z)
  ]

  share_within : (g w : ℕ) → w < length l.units → share g w ≤ℤ height w
  share_within g w h = let z = sound.heights w h in elim (cases_lt g (layer_of l w)) [
    | inl k ↦ let e = share_out g w k in omega (arith, ints, e, z)
    | inr k ↦ let e = share_in g w k in omega (arith, ints, e)
  ]

  share_grows : (g w : ℕ) → w < length l.units → share g w ≤ℤ share (g + 1) w
  share_grows g w h = elim (cases_lt g (layer_of l w)) [
    | inl k ↦ let e = share_out g w k in let z = share_from_zero (g + 1) w h in omega (arith, ints, e, z)
    | inr k ↦ let e = share_in g w k in let f = share_in (g + 1) w (omega (arith, k)) in omega (arith, ints, e, f)
  ]

  pub own_height : (u : ℕ) → u < length l.units → height u ≤ℤ height_up_to l (layer_of l u) (length l.units)
  own_height u h =
      let g : ℕ = layer_of l u in
      let none = sum_nothing (length l.units) in
      let more = sum_gain (length l.units) (λ w. pos 0) (λ w. pos 0) (share (layer_of l u)) u (height u) h
      (λ w q. let z = share_from_zero (layer_of l u) w q in omega (arith, ints, z))
      (let i = share_in (layer_of l u) u (omega arith) in omega (arith, ints, i)) in
      let s = as_sum (layer_of l u) (length l.units) in
      omega (arith, ints, none, more, s)

  pub one_layer_more : (g u : ℕ) → u < length l.units → layer_of l u ≡ g + 1 → (height_up_to l g (length l.units) +ℤ height u) ≤ℤ height_up_to l (g + 1) (length l.units)
  one_layer_more g u h k =
      let none = sum_nothing (length l.units) in
      let more = sum_gain (length l.units) (share g) (λ w. pos 0) (share (g + 1)) u (height u) h
      (λ w q. let z = share_grows g w q in omega (arith, ints, z))
      (let i = share_in (g + 1) u (omega (arith, k)) in let o = share_out g u (omega (arith, k)) in omega (arith, ints, i, o)) in
      let s = as_sum g (length l.units) in
      let t = as_sum (g + 1) (length l.units) in
      omega (arith, ints, none, more, s, t)

  pub heights_small : (g : ℕ) → height_up_to l g (length l.units) <ℤ pos (2 ^ 56)
  heights_small g =
      let a = sum_below (length l.units) (share g) height (share_within g) in
      let c = sum_heights l.units in
      let d = sound.together in
      let s = as_sum g (length l.units) in
      omega (arith, ints, a, c, d, s)
