use Rattle.std.proofs.Common.{◌∙◌}
use Rattle.elk_layers.proofs.CopyLemmas.{row_more}
use Rattle.elk_layers.proofs.copying.copy_of.Goals as goal

pub loop-row-preserved : goal.loop-row-preserved
loop-row-preserved c =
    row_more c.loop-row.rows.items c.push.new.self.items c.args.order.now.rows.items c.as_slice-row-items.result.now c.in_ok-row_copy.field-0 c.row-item.result c.loop-row.row-index
    c.loop-row-test.true c.as_slice-row-items.ensures.value c.row-item.is c.in_ok-push.ensures.items (c.in_ok-row_copy.ensures ∙ c.as_slice.ensures.value) c.loop-row.invariant
