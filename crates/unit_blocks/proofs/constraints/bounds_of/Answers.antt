use Rattle.std.proofs.Common.{◌≡◌, ◌++◌, ap, sym, ◌∙◌, drop, ◌+◌}
use Rattle.elk_layers.specs.Layered.{plain, rows_of}
use Rattle.unit_blocks.specs.Constraints.{all_bounds, row_bounds}
use Rattle.unit_blocks.proofs.PhaseLemmas.{rows_step}
use Rattle.unit_blocks.proofs.constraints.bounds_of.Goals as goal
use Rattle.elk_layers.proofs.RowLemmas.{row_read, row_in_range}

pub push_row_bounds-requires-clause-units : goal.push_row_bounds-requires-clause-units
push_row_bounds-requires-clause-units c =
    let r = row_read (λ v. v.items) c.deref-row-items.result.now c.args.order.now.rows.items c.loop-row.row-index c.row-item.result c.deref-row-items.ensures.value c.row-item.is c.loop-row-test.true in
    rw c.as_slice.ensures.value (row_in_range (plain c.args.layered.now) (rows_of c.args.order.now) c.loop-row.row-index c.row-item.result.items c.requires.rows r.1 r.0)

pub loop-row-preserved : goal.loop-row-preserved
loop-row-preserved c =
    let l = plain c.args.layered.now in
    let rows = rows_of c.args.order.now in
    let r = row_read (λ v. v.items) c.deref-row-items.result.now c.args.order.now.rows.items c.loop-row.row-index c.row-item.result c.deref-row-items.ensures.value c.row-item.is c.loop-row-test.true in
    let added : c.push_row_bounds.new.bounds.items ≡ c.loop-row.bounds.items ++ row_bounds l c.args.blocks.now c.args.offsets.now c.row-item.result.items =
    rw c.as_slice.ensures.value at c.in_ok-push_row_bounds.ensures in
    ap (λ bs. bs ++ all_bounds l c.args.blocks.now c.args.offsets.now (drop (c.loop-row.row-index + 1) rows))
    (added ∙ ap (λ xs. c.loop-row.bounds.items ++ row_bounds l c.args.blocks.now c.args.offsets.now xs) (sym r.0))
    ∙ rows_step l c.args.blocks.now c.args.offsets.now rows c.loop-row.row-index c.loop-row.bounds.items r.1
    ∙ c.loop-row.invariant
