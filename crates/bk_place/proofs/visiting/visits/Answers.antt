use Rattle.std.proofs.Common.{◌≡◌, ◌∙◌, ap, sym, arith, length}
use Rattle.std.proofs.lemmas.List.{length-map}
use Rattle.elk_layers.specs.Layered.{rows_of}
use Rattle.elk_layers.proofs.RowLemmas.{row_read}
use Rattle.bk_place.proofs.VisitLemmas.{rows_next, rows_whole}
use Rattle.bk_place.proofs.visiting.visits.Goals as goal

pub loop-i-preserved : goal.loop-i-preserved
loop-i-preserved c =
    let long = length-map c.args.order.now.rows.items (λ v. v.items) in
    let same = ap length c.as_slice-rows.ensures.value in
    let many : length c.as_slice-rows.result.now ≡ length (rows_of c.args.order.now) = omega (arith, long, same) in
    let row = (row_read (λ v. v.items) c.as_slice-rows.result.now c.args.order.now.rows.items c.counted-at.result c.index-rows-at.result c.as_slice-rows.ensures.value c.index-rows-at.is c.counted-at.ensures.below).0 in
    rows_next c.args.sweep (rows_of c.args.order.now) c.loop-i.i c.counted-at.result c.goes_left-left.result c.as_slice.result.now c.loop-i.visits.items c.push_row.new.visits.items
    c.loop-i.auto.i (let h = c.loop-i-test.true in omega (arith, h, many)) c.goes_left-left.ensures (rw many at c.counted-at.ensures.place) (row ∙ sym c.as_slice.ensures.value) c.loop-i.invariant c.in_ok-push_row.ensures

pub returns : goal.returns
returns c =
    let long = length-map c.args.order.now.rows.items (λ v. v.items) in
    let same = ap length c.as_slice-rows.ensures.value in
    rows_whole c.args.sweep (rows_of c.args.order.now) c.loop-i.i c.loop-i.visits.items (let h = c.loop-i-test.false in omega (arith, h, long, same)) c.loop-i.invariant
