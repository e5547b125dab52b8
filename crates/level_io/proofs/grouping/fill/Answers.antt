use Rattle.std.proofs.Common.{arith}
use Rattle.std.proofs.lemmas.List.{length-map}
use Rattle.level_io.specs.Grouping.{rows_in}
use Rattle.level_io.proofs.GroupLemmas.{none_placed, placed_more}
use Rattle.level_io.proofs.grouping.fill.Goals as goal

pub loop-number-init : goal.loop-number-init
loop-number-init c = (none_placed c.args.keys.now c.in_ok-places.places.items c.in_ok-places.ensures.items, c.requires.empty)

pub loop-number-preserved : goal.loop-number-preserved
loop-number-preserved c =
    let n = c.loop-number.number in
    let many = length-map c.loop-number.rows (λ row. row.items) in
    let long = c.loop-number.auto.rows in (
      placed_more c.args.keys.now n c.in_ok-add.field-0 (rows_in c.loop-number.rows) c.loop-number.places.items c.push.new.self.items
          (λ k key. let there = c.requires.there n k c.loop-number-test.true key in omega (arith, many, long, there))
          c.loop-number.invariant.1 c.in_ok-add.ensures.place c.in_ok-push.ensures.items c.loop-number.invariant.0,
      c.in_ok-add.ensures.grouped,
    )
