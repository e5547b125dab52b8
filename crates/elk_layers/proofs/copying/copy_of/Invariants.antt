use Rattle.std.proofs.Common.{◌≡◌, map, take}
use Rattle.elk_layers.specs.Layered.{rows_of}
use Rattle.elk_layers.proofs.copying.copy_of.Given as goal

abbrev pub invariant-loop-row : goal.invariant-loop-row
invariant-loop-row l = map (λ row. row.items) l.rows.items ≡ take l.row-index (rows_of l.order)
