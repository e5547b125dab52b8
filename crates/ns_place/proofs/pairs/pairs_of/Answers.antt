use Rattle.std.proofs.Common.{◌≡◌, ◌++◌, ap, sym, ◌∙◌, drop, ◌+◌}
use Rattle.elk_layers.specs.Layered.{plain, rows_of}
use Rattle.elk_layers.proofs.RowLemmas.{row_read, row_in_range}
use Rattle.ns_place.specs.Pairs.{all_pairs, row_pairs}
use Rattle.ns_place.proofs.PairLemmas.{rows_step}
use Rattle.ns_place.proofs.pairs.pairs_of.Goals as goal

pub push_row-requires : goal.push_row-requires
push_row-requires c =
    let r = row_read (λ v. v.items) c.deref-row-items.result.now c.args.order.now.rows.items c.loop-row.row-index c.row-item.result c.deref-row-items.ensures.value c.row-item.is c.loop-row-test.true in
    rw c.as_slice.ensures.value (row_in_range (plain c.args.layered.now) (rows_of c.args.order.now) c.loop-row.row-index c.row-item.result.items c.requires r.1 r.0)

pub loop-row-preserved : goal.loop-row-preserved
loop-row-preserved c =
    let l = plain c.args.layered.now in
    let rows = rows_of c.args.order.now in
    let r = row_read (λ v. v.items) c.deref-row-items.result.now c.args.order.now.rows.items c.loop-row.row-index c.row-item.result c.deref-row-items.ensures.value c.row-item.is c.loop-row-test.true in
    let added : c.push_row.new.pairs.items ≡ c.loop-row.pairs.items ++ row_pairs l c.row-item.result.items =
    rw c.as_slice.ensures.value at c.in_ok-push_row.ensures in
    ap (λ ps. ps ++ all_pairs l (drop (c.loop-row.row-index + 1) rows))
    (added ∙ ap (λ xs. c.loop-row.pairs.items ++ row_pairs l xs) (sym r.0))
    ∙ rows_step l rows c.loop-row.row-index c.loop-row.pairs.items r.1
    ∙ c.loop-row.invariant
