use Rattle.std.proofs.Common.{◌<◌, ℕ, Vec, Global, arith, length, slice_index}
use Rattle.std.proofs.lemmas.List.{length-map}
use Rattle.level_parts.specs.Groups.{lists_of}
use Rattle.level_parts.proofs.GroupLemmas.{no_places, place_more, row_few, rows_more}
use Rattle.level_parts.proofs.grouping.fill.Goals as goal

pub loop-i-init : goal.loop-i-init
loop-i-init c = (no_places c.args.keys.now c.in_ok-places.places.items c.in_ok-places.ensures.items, λ k h. c.requires.empty k)

pub add-requires-clause-few : goal.add-requires-clause-few
add-requires-clause-few c =
    let keys = c.args.keys.now in
    let n = c.loop-i.i in
    let less = c.loop-i-test.true in
    let low = c.requires.below n less in
    let long = c.loop-i.auto.rows in
    let many = length-map c.loop-i.rows (λ (r : Vec ℕ Global). r.items) in
    let there : slice_index keys n < length (lists_of c.loop-i.rows) = omega (arith, low, long, many) in
    let few = row_few keys n (slice_index keys n) (lists_of c.loop-i.rows) there c.loop-i.invariant.1 in
    let all = c.requires.few in
    omega (arith, few, all, less)

pub loop-i-preserved : goal.loop-i-preserved
loop-i-preserved c =
    let keys = c.args.keys.now in
    let n = c.loop-i.i in
    let low = c.requires.below n c.loop-i-test.true in
    let long = c.loop-i.auto.rows in
    let many = length-map c.loop-i.rows (λ (r : Vec ℕ Global). r.items) in
    let there : slice_index keys n < length (lists_of c.loop-i.rows) = omega (arith, low, long, many) in (
      place_more keys n c.in_ok-add.field-0 (lists_of c.loop-i.rows) c.loop-i.places.items c.push.new.self.items there c.loop-i.invariant.1 c.in_ok-add.ensures.place c.in_ok-push.ensures.items c.loop-i.invariant.0,
      rows_more keys n (lists_of c.loop-i.rows) (lists_of c.add.new.rows) there c.in_ok-add.ensures.rows c.loop-i.invariant.1,
    )
