use Rattle.std.proofs.Common.{◌≡◌, ◌+◌, length}
use Rattle.elk_layers.specs.Layered.{plain, rows_of}
use Rattle.unit_blocks.specs.Chains.{IsWovenThrough}
use Rattle.unit_blocks.proofs.order.weave_rows.Given as goal

abbrev pub invariant-loop-row : goal.invariant-loop-row
invariant-loop-row l =
    (length l.next ≡ l.end + 1)
    × IsWovenThrough (plain l.layered) (rows_of l.order) l.names l.row-index l.next
