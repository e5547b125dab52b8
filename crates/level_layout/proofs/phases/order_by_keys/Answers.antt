use Rattle.std.proofs.Common.{sym, subst}
use Rattle.elk_layers.specs.Layered.{AreRows, plain, rows_of}
use Rattle.elk_layers.specs.Crossings.{HasSameRows}
use Rattle.level_layout.proofs.RowsLemmas.{rows_kept}
use Rattle.level_layout.proofs.phases.order_by_keys.Goals as goal

pub reduce_held-requires-clause-rows : goal.reduce_held-requires-clause-rows
reduce_held-requires-clause-rows c = subst (AreRows (plain c.args.layered.now)) (sym c.in_ok-copy.ensures) c.requires.rows

pub returns-clause-held : goal.returns-clause-held
returns-clause-held c =
    record {
      same_rows = subst (λ s. HasSameRows s (rows_of c.in_ok-order.order)) c.in_ok-copy.ensures c.in_ok-order.ensures.same_rows;
      ascends = c.in_ok-order.ensures.held;
      settled = c.in_ok-order.ensures.settled;
    }

pub returns-clause-rows : goal.returns-clause-rows
returns-clause-rows c =
    rows_kept (plain c.args.layered.now) (rows_of c.args.start.now) (rows_of c.in_ok-copy.copy) (rows_of c.in_ok-order.order)
    c.requires.sound c.requires.rows c.in_ok-copy.ensures c.in_ok-order.ensures.same_rows
