use Rattle.std.proofs.Common.{arith, rules, ◌≡◌, ◌+◌, ◌*◌, ◌/◌, ◌<◌, ℕ, List, ℤ, [], length, take, drop, get_or, w64}
use Rattle.std.specs.Simd.{first_chunks}
use Rattle.std.proofs.lemmas.Int.{to_z-of_z}
use Rattle.lane_count.proofs.Lanes.{chunk_at}
use Rattle.lane_count.proofs.MeetsLemmas.{fits_part, meets_part, meets_rest, none_more, rest_meets}
use Rattle.lane_count.proofs.meeting.any_meets.Goals as goal

block : (xs : List ℤ) (blocks : List (List ℤ)) (k : ℕ) → blocks ≡ first_chunks 8 (length xs / 8) xs → k < length xs / 8 → get_or blocks k [] ≡ take 8 (drop (k * 8) xs)
block xs blocks k e l = rw e (chunk_at 8 (length xs / 8) xs k [] l)

pub meets_in-requires-clause-low_fits : goal.meets_in-requires-clause-low_fits
meets_in-requires-clause-low_fits c =
    rw (block c.args.lo.now c.as_chunks.result.0.now c.loop-k.k c.as_chunks.ensures.front (omega (arith, c.as_chunks.ensures.front_len)))
    (fits_part (c.loop-k.k * 8) c.args.lo.now c.see_that_all_fit.ensures)

pub meets_in-requires-clause-high_fits : goal.meets_in-requires-clause-high_fits
meets_in-requires-clause-high_fits c =
    rw (block c.args.hi.now c.as_chunks-2.result.0.now c.loop-k.k c.as_chunks-2.ensures.front (omega (arith, c.requires, c.as_chunks.ensures.front_len, c.as_chunks-2.ensures.front_len)))
    (fits_part (c.loop-k.k * 8) c.args.hi.now c.see_that_all_fit-2.ensures)

pub returns-then-meets_in : goal.returns-then-meets_in
returns-then-meets_in c =
    let low = block c.args.lo.now c.as_chunks.result.0.now c.loop-k.k c.as_chunks.ensures.front (omega (arith, c.as_chunks.ensures.front_len)) in
    let high = block c.args.hi.now c.as_chunks-2.result.0.now c.loop-k.k c.as_chunks-2.ensures.front (omega (arith, c.requires, c.as_chunks.ensures.front_len, c.as_chunks-2.ensures.front_len)) in (
      λ t. meets_part c.args.a c.args.b c.args.lo.now c.args.hi.now (c.loop-k.k * 8) (omega (arith, c.as_chunks.ensures.front_len))
          (rw (low, high, to_z-of_z w64 c.args.a c.ranges.a, to_z-of_z w64 c.args.b c.ranges.b) at (c.if-meets_in.ensures.0 t)),
      λ m. search rules,
    )

pub loop-k-preserved : goal.loop-k-preserved
loop-k-preserved c =
    let low = block c.args.lo.now c.as_chunks.result.0.now c.loop-k.k c.as_chunks.ensures.front (omega (arith, c.as_chunks.ensures.front_len)) in
    let high = block c.args.hi.now c.as_chunks-2.result.0.now c.loop-k.k c.as_chunks-2.ensures.front (omega (arith, c.requires, c.as_chunks.ensures.front_len, c.as_chunks-2.ensures.front_len)) in
    let t = rw (low, high, to_z-of_z w64 c.args.a c.ranges.a, to_z-of_z w64 c.args.b c.ranges.b) at c.if-meets_in.ensures.1 in
    let next : (c.loop-k.k + 1) * 8 ≡ c.loop-k.k * 8 + 8 = omega arith in
    rw (next, to_z-of_z w64 c.args.a c.ranges.a, to_z-of_z w64 c.args.b c.ranges.b)
    (none_more c.args.a c.args.b c.args.lo.now c.args.hi.now (c.loop-k.k * 8) (omega (arith, c.as_chunks.ensures.front_len))
    (λ m. let f = t m in cc) (rw (to_z-of_z w64 c.args.a c.ranges.a, to_z-of_z w64 c.args.b c.ranges.b) at c.loop-k.invariant))

pub returns : goal.returns
returns c =
    let same : length c.args.hi.now / 8 * 8 ≡ length c.args.lo.now / 8 * 8 = omega (arith, c.requires) in
    let f = rw (c.as_chunks.ensures.back, c.as_chunks-2.ensures.back, same, to_z-of_z w64 c.args.a c.ranges.a, to_z-of_z w64 c.args.b c.ranges.b) at c.meets_one_by_one.ensures in
    let reached : c.loop-k.k ≡ length c.args.lo.now / 8 = omega (arith, c.as_chunks.ensures.front_len) in
    let none = rw (reached, to_z-of_z w64 c.args.a c.ranges.a, to_z-of_z w64 c.args.b c.ranges.b) at c.loop-k.invariant in (
      λ t. meets_rest c.args.a c.args.b c.args.lo.now c.args.hi.now (length c.args.lo.now / 8 * 8) (f.0 t),
      λ m. f.1 (rest_meets c.args.a c.args.b c.args.lo.now c.args.hi.now (length c.args.lo.now / 8 * 8) none m),
    )
