use Rattle.std.proofs.Common.{◌≡◌, ℕ, ◌<◌, ◌^◌, ℤ, pos, ◌+ℤ◌, ◌-ℤ◌, ◌≤ℤ◌, ◌+◌, ◌-◌, ◌≤◌, List, [], ◌∷◌, ◌++◌, drop, get_or, Bool, true, false, length, arith, refl, ◌∙◌, ap, append_assoc}
use Rattle.std.proofs.lemmas.List.{drop_more}
use Rattle.separation.specs.declared.bounds.Bound.{Bound}
use Rattle.std.proofs.lemmas.Int.{ints}
use Rattle.elk_layers.specs.Layered.{Plain, IsSound}
use Rattle.elk_layers.specs.Lines.{lane_below, lane_above}
use Rattle.elk_layers.proofs.HeightLemmas.{height_below}
use Rattle.unit_blocks.specs.Constraints.{greatest_spacing, block_at, offset_at, bounds_along, row_bounds, all_bounds}
use Rattle.unit_blocks.specs.Phases.{distance_of, CanBeApart}
use Rattle.unit_blocks.proofs.StackLemmas.{facing_within, facing_from_zero}
use Rattle.std.proofs.lemmas.Int.{clamps}

pub distance_small : (l : Plain) (outlines : Bool) (u v : ℕ) → IsSound l → CanBeApart l outlines u → CanBeApart l outlines v → (pos 0 ≤ℤ (distance_of l outlines u v +ℤ pos (2 ^ 57))) × (distance_of l outlines u v ≤ℤ pos (2 ^ 57))
distance_small l true u v s cu cv =
    let hu = height_below l s u cu.0 in
    let hv = height_below l s v cv.0 in
    let bu = s.bodies u cu.0 (cu.1 refl) in
    let bv = s.bodies v cv.0 (cv.1 refl) in
    let low = s.node_node_is.low in
    let high = s.node_node_is.high in
    (omega (arith, ints, hv, bu.top, bu.height, bv.height, bv.bottom, low), omega (arith, ints, hu, bu.bottom, bv.top, high))
distance_small l false u v s cu cv =
    let hu = height_below l s u cu.0 in
    let zu = s.heights u cu.0 in
    let f = facing_within l (lane_below l u) (lane_above l v) in
    let z = facing_from_zero l s (lane_below l u) (lane_above l v) in
    let a = s.node_node_is.high in
    let b = s.edge_node_is.high in
    let c = s.edge_edge_is.high in
    let g : greatest_spacing l ≤ℤ pos (2 ^ 20) = omega (arith, ints, clamps, a, b, c) in
    (omega (arith, ints, zu, z), omega (arith, ints, hu, f, g))

-- bounds along a list, one after the other

same_bound : (b : Bound) (x y : ℕ) (z : ℤ) → b.before ≡ x → b.after ≡ y → b.gap ≡ z → b ≡ record { before = x; after = y; gap = z }
same_bound b x y z e f g =
    ap (λ (n : ℕ). record { before = n; after = b.after; gap = b.gap }) e
    ∙ ap (λ (n : ℕ). record { before = x; after = n; gap = b.gap }) f
    ∙ ap (λ (n : ℤ). record { before = x; after = y; gap = n }) g

pub bounds_short : (d : ℕ → ℕ → ℤ) (blocks : List ℕ) (offsets : List ℤ) (units : List ℕ) → length units ≤ 1 → bounds_along d blocks offsets units ≡ []
bounds_short d blocks offsets [] h = refl
bounds_short d blocks offsets (u ∷ []) h = refl
bounds_short d blocks offsets (u ∷ v ∷ units) h = absurd (omega (arith, h))

pub bounds_step : (d : ℕ → ℕ → ℤ) (blocks : List ℕ) (offsets : List ℤ) (units : List ℕ) (i : ℕ) (b : Bound) (now : List Bound) → 1 ≤ i → i < length units
    → b.before ≡ block_at blocks (get_or units (i - 1) 0) → b.after ≡ block_at blocks (get_or units i 0)
    → b.gap ≡ offset_at offsets (get_or units (i - 1) 0) +ℤ d (get_or units (i - 1) 0) (get_or units i 0) -ℤ offset_at offsets (get_or units i 0)
    → (now ++ b ∷ []) ++ bounds_along d blocks offsets (drop (i + 1 - 1) units) ≡ now ++ bounds_along d blocks offsets (drop (i - 1) units)
bounds_step d blocks offsets units i b now h k e f g =
    let u = get_or units (i - 1) 0 in
    let v = get_or units i 0 in
    let back : i - 1 + 1 ≡ i = omega (arith, h) in
    let on : i + 1 - 1 ≡ i = omega arith in
    let here : drop i units ≡ v ∷ drop (i + 1) units = drop_more units i 0 k in
    let before : drop (i - 1) units ≡ u ∷ v ∷ drop (i + 1) units =
    drop_more units (i - 1) 0 (omega (arith, k)) ∙ ap (λ n. u ∷ drop n units) back ∙ ap (λ xs. u ∷ xs) here in
    rw (on, here, before, same_bound b _ _ _ e f g) (append_assoc now _ _)

pub rows_step : (l : Plain) (blocks : List ℕ) (offsets : List ℤ) (rows : List (List ℕ)) (i : ℕ) (now : List Bound) → i < length rows
    → (now ++ row_bounds l blocks offsets (get_or rows i [])) ++ all_bounds l blocks offsets (drop (i + 1) rows) ≡ now ++ all_bounds l blocks offsets (drop i rows)
rows_step l blocks offsets rows i now k =
    rw (drop_more rows i [] k) (append_assoc now (row_bounds l blocks offsets (get_or rows i [])) (all_bounds l blocks offsets (drop (i + 1) rows)))
