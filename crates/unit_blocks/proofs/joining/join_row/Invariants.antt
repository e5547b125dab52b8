use Rattle.elk_layers.specs.Layered.{plain, rows_of}
use Rattle.unit_blocks.specs.Joining.{AreJoinedUpTo}
use Rattle.unit_blocks.proofs.joining.join_row.Given as goal

abbrev pub invariant-loop-unit : goal.invariant-loop-unit
invariant-loop-unit l = AreJoinedUpTo (plain l.layered) (rows_of l.order) l.into l.r l.unit-index l.names l.offsets
