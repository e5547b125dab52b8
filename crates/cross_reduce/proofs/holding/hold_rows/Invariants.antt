use Rattle.std.proofs.Common.{◌<◌, ℕ}
use Rattle.elk_layers.specs.Layered.{rows_of, row_at}
use Rattle.elk_layers.specs.Crossings.{HasSameRows}
use Rattle.cross_reduce.specs.Held.{IsHeldRow}
use Rattle.cross_reduce.proofs.holding.hold_rows.Given as goal

abbrev pub invariant-loop-r : goal.invariant-loop-r
invariant-loop-r l =
    record {
      same : HasSameRows (rows_of l.initial.order) (rows_of l.order);
      ascends : (g : ℕ) → g < l.r → IsHeldRow l.held (row_at (rows_of l.order) g);
    }
