use Rattle.elk_layers.specs.Layered.{plain, rows_of}
use Rattle.unit_blocks.specs.Joining.{AreJoinedUpTo}
use Rattle.unit_blocks.proofs.joining.join_rows.Given as goal

abbrev pub invariant-loop-r : goal.invariant-loop-r
invariant-loop-r l = AreJoinedUpTo (plain l.layered) (rows_of l.order) l.into l.r 0 l.names l.offsets
