use Rattle.elk_layers.specs.Layered.{rows_of}
use Rattle.elk_layers.specs.Crossings.{HasSameRows}
use Rattle.cross_reduce.proofs.reordering.reorder.Given as goal

abbrev pub invariant-loop-r : goal.invariant-loop-r
invariant-loop-r l = HasSameRows (rows_of l.initial.order) (rows_of l.order)
