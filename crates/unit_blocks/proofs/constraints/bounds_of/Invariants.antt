use Rattle.std.proofs.Common.{◌≡◌, ◌++◌, drop}
use Rattle.elk_layers.specs.Layered.{plain, rows_of}
use Rattle.unit_blocks.specs.Constraints.{all_bounds}
use Rattle.unit_blocks.proofs.constraints.bounds_of.Given as goal

abbrev pub invariant-loop-row : goal.invariant-loop-row
invariant-loop-row l =
    l.bounds.items ++ all_bounds (plain l.layered) l.blocks l.offsets (drop l.row-index (rows_of l.order))
    ≡ all_bounds (plain l.layered) l.blocks l.offsets (rows_of l.order)
