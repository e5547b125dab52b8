use Rattle.std.proofs.Common.{◌≡◌, ◌∙◌, ap, refl, ◌<◌, length, pos, ◌<ℤ◌, ◌≤ℤ◌, rules, w64, to_z, of_z, FitsSigned}
use Rattle.std.specs.Int.{int_gap}
use Rattle.std.proofs.lemmas.Int.{to_z-of_z}
use Rattle.box_pack.specs.declared.walk.Measured.{Measured}
use Rattle.box_pack.specs.Boxes.{long_side}
use Rattle.box_pack.specs.Walk.{measured_to, page_of, long_at}
use Rattle.box_pack.proofs.Limiting.{AreBoxes, IsWalked, over_far, not_far, walked_first, walked_on, walked_better, walked_all, walk_falls, walk_low, le_refl, lt_le}
use Rattle.box_pack.proofs.squarest.least_limit.Goals as goal

pub limits-init : goal.limits-init
limits-init c =
    let sizes = c.args.sizes.now in
    let gap = c.args.gap in
    let gap_is = to_z-of_z w64 gap c.ranges.gap in
    let fits : FitsSigned w64 c.long_side-least.result = search rules in
    let m : c.measure-measured.result ≡ measured_to sizes (page_of gap (pos 0)) (length sizes) = simp gap_is at c.measure-measured.ensures in
    let long : c.long_side-least.result ≡ long_at sizes gap (pos 0) = c.long_side-least.ensures ∙ ap (λ (z : Measured). long_side z.extent) m in
    simp (gap_is, to_z-of_z w64 c.long_side-least.result fits)
    (pos 0, walked_first sizes gap c.long_side-least.result c.measure-measured.result.next (ap (λ (z : Measured). z.next) m) long)

pub measure-measured-requires-in-limits-clause-page : goal.measure-measured-requires-in-limits-clause-page
measure-measured-requires-in-limits-clause-page c =
    let sizes = c.args.sizes.now in
    let gap = c.args.gap in
    let gap_is = to_z-of_z w64 gap c.ranges.gap in
    let next = c.limits.measured.next in
    let fits : FitsSigned w64 next = search rules in
    let next_is = to_z-of_z w64 next fits in
    let boxes : AreBoxes sizes gap = record { count = c.requires.count; each = c.requires.sizes; gap_low = c.requires.gap.0; gap_high = c.requires.gap.1 } in
    let best = to_z w64 c.limits.limit-bits in
    let least = to_z w64 c.limits.least-bits in
    let (tried, walk) = c.limits.invariant in
    let w : IsWalked sizes gap best least tried next = simp gap_is at walk in
    let less : next <ℤ least = over_far next least (simp next_is at c.limits-test.true) in
    simp (gap_is, next_is) (c.requires.gap.0, c.requires.gap.1, walk_low sizes gap best least tried next boxes w less)

pub limits-smaller-then-long-least : goal.limits-smaller-then-long-least
limits-smaller-then-long-least c =
    let sizes = c.args.sizes.now in
    let gap = c.args.gap in
    let gap_is = to_z-of_z w64 gap c.ranges.gap in
    let next = c.limits.measured.next in
    let fits : FitsSigned w64 next = search rules in
    let next_is = to_z-of_z w64 next fits in
    let boxes : AreBoxes sizes gap = record { count = c.requires.count; each = c.requires.sizes; gap_low = c.requires.gap.0; gap_high = c.requires.gap.1 } in
    let best = to_z w64 c.limits.limit-bits in
    let least = to_z w64 c.limits.least-bits in
    let (tried, walk) = c.limits.invariant in
    let w : IsWalked sizes gap best least tried next = simp gap_is at walk in
    let less : next <ℤ least = over_far next least (simp next_is at c.limits-test.true) in
    let long = c.long_side-long.result in
    let long_fits : FitsSigned w64 long = search rules in
    let long_is = to_z-of_z w64 long long_fits in
    let better : long <ℤ least = over_far long least (simp long_is at c.if-long-least.true) in
    let m : c.measure-measured-in-limits.result ≡ measured_to sizes (page_of gap next) (length sizes) = simp (gap_is, next_is) at c.measure-measured-in-limits.ensures in
    let after = c.measure-measured-in-limits.result.next in
    let falls : int_gap after (to_z w64 (of_z w64 long)) < int_gap next least =
    rw long_is (walk_falls sizes gap best least tried next after long boxes w less (ap (λ (z : Measured). z.next) m) (lt_le long least better)) in
    falls

pub limits-preserved-then-long-least : goal.limits-preserved-then-long-least
limits-preserved-then-long-least c =
    let sizes = c.args.sizes.now in
    let gap = c.args.gap in
    let gap_is = to_z-of_z w64 gap c.ranges.gap in
    let next = c.limits.measured.next in
    let fits : FitsSigned w64 next = search rules in
    let next_is = to_z-of_z w64 next fits in
    let boxes : AreBoxes sizes gap = record { count = c.requires.count; each = c.requires.sizes; gap_low = c.requires.gap.0; gap_high = c.requires.gap.1 } in
    let best = to_z w64 c.limits.limit-bits in
    let least = to_z w64 c.limits.least-bits in
    let (tried, walk) = c.limits.invariant in
    let w : IsWalked sizes gap best least tried next = simp gap_is at walk in
    let less : next <ℤ least = over_far next least (simp next_is at c.limits-test.true) in
    let long = c.long_side-long.result in
    let long_fits : FitsSigned w64 long = search rules in
    let long_is = to_z-of_z w64 long long_fits in
    let better : long <ℤ least = over_far long least (simp long_is at c.if-long-least.true) in
    let m : c.measure-measured-in-limits.result ≡ measured_to sizes (page_of gap next) (length sizes) = simp (gap_is, next_is) at c.measure-measured-in-limits.ensures in
    let same : long ≡ long_at sizes gap next = c.long_side-long.ensures ∙ ap (λ (z : Measured). long_side z.extent) m in
    let after = c.measure-measured-in-limits.result.next in
    simp (gap_is, next_is, long_is)
    (next, walked_better sizes gap best least tried next after long boxes w less (ap (λ (z : Measured). z.next) m) same better)

pub limits-smaller : goal.limits-smaller
limits-smaller c =
    let sizes = c.args.sizes.now in
    let gap = c.args.gap in
    let gap_is = to_z-of_z w64 gap c.ranges.gap in
    let next = c.limits.measured.next in
    let fits : FitsSigned w64 next = search rules in
    let next_is = to_z-of_z w64 next fits in
    let boxes : AreBoxes sizes gap = record { count = c.requires.count; each = c.requires.sizes; gap_low = c.requires.gap.0; gap_high = c.requires.gap.1 } in
    let best = to_z w64 c.limits.limit-bits in
    let least = to_z w64 c.limits.least-bits in
    let (tried, walk) = c.limits.invariant in
    let w : IsWalked sizes gap best least tried next = simp gap_is at walk in
    let less : next <ℤ least = over_far next least (simp next_is at c.limits-test.true) in
    let m : c.measure-measured-in-limits.result ≡ measured_to sizes (page_of gap next) (length sizes) = simp (gap_is, next_is) at c.measure-measured-in-limits.ensures in
    let after = c.measure-measured-in-limits.result.next in
    let falls : int_gap after least < int_gap next least =
    walk_falls sizes gap best least tried next after least boxes w less (ap (λ (z : Measured). z.next) m) (le_refl least) in
    falls

pub limits-preserved : goal.limits-preserved
limits-preserved c =
    let sizes = c.args.sizes.now in
    let gap = c.args.gap in
    let gap_is = to_z-of_z w64 gap c.ranges.gap in
    let next = c.limits.measured.next in
    let fits : FitsSigned w64 next = search rules in
    let next_is = to_z-of_z w64 next fits in
    let boxes : AreBoxes sizes gap = record { count = c.requires.count; each = c.requires.sizes; gap_low = c.requires.gap.0; gap_high = c.requires.gap.1 } in
    let best = to_z w64 c.limits.limit-bits in
    let least = to_z w64 c.limits.least-bits in
    let (tried, walk) = c.limits.invariant in
    let w : IsWalked sizes gap best least tried next = simp gap_is at walk in
    let less : next <ℤ least = over_far next least (simp next_is at c.limits-test.true) in
    let long = c.long_side-long.result in
    let long_fits : FitsSigned w64 long = search rules in
    let long_is = to_z-of_z w64 long long_fits in
    let m : c.measure-measured-in-limits.result ≡ measured_to sizes (page_of gap next) (length sizes) = simp (gap_is, next_is) at c.measure-measured-in-limits.ensures in
    let same : long ≡ long_at sizes gap next = c.long_side-long.ensures ∙ ap (λ (z : Measured). long_side z.extent) m in
    let no_better : least ≤ℤ long_at sizes gap next = not_far long (long_at sizes gap next) least same (simp long_is at c.if-long-least.false) in
    let after = c.measure-measured-in-limits.result.next in
    simp gap_is (next, walked_on sizes gap best least tried next after boxes w less (ap (λ (z : Measured). z.next) m) no_better)

pub returns : goal.returns
returns c =
    let sizes = c.args.sizes.now in
    let gap = c.args.gap in
    let gap_is = to_z-of_z w64 gap c.ranges.gap in
    let next = c.limits.measured.next in
    let fits : FitsSigned w64 next = search rules in
    let next_is = to_z-of_z w64 next fits in
    let boxes : AreBoxes sizes gap = record { count = c.requires.count; each = c.requires.sizes; gap_low = c.requires.gap.0; gap_high = c.requires.gap.1 } in
    let best = to_z w64 c.limits.limit-bits in
    let least = to_z w64 c.limits.least-bits in
    let (tried, walk) = c.limits.invariant in
    let w : IsWalked sizes gap best least tried next = simp gap_is at walk in
    walked_all sizes gap best least tried next boxes w (not_far next next least refl (simp next_is at c.limits-test.false))
