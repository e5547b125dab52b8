use Rattle.std.proofs.Common.{sym, subst}
use Rattle.elk_layers.specs.Layered.{AreRows, plain, rows_of}
use Rattle.cross_reduce.specs.Reduced.{IsReduced}
use Rattle.level_layout.proofs.RowsLemmas.{rows_kept}
use Rattle.level_layout.proofs.phases.swept_order.Goals as goal

pub reduce_with_effort-requires-clause-rows : goal.reduce_with_effort-requires-clause-rows
reduce_with_effort-requires-clause-rows c = subst (AreRows (plain c.args.layered.now)) (sym c.in_ok-copy.ensures) c.requires.rows

pub returns-clause-reduced : goal.returns-clause-reduced
returns-clause-reduced c = subst (λ s. IsReduced (plain c.args.layered.now) s (rows_of c.in_ok-order.order)) c.in_ok-copy.ensures c.in_ok-order.ensures

pub returns-clause-rows : goal.returns-clause-rows
returns-clause-rows c =
    rows_kept (plain c.args.layered.now) (rows_of c.args.start.now) (rows_of c.in_ok-copy.copy) (rows_of c.in_ok-order.order)
    c.requires.sound c.requires.rows c.in_ok-copy.ensures c.in_ok-order.ensures.same_rows
