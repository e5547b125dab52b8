use Rattle.std.proofs.Common.{subst}
use Rattle.elk_layers.specs.Layered.{rows_of}
use Rattle.elk_layers.specs.Crossings.{HasSameRows}
use Rattle.cross_reduce.proofs.reordering.order_in.Goals as goal

pub reorder-requires-clause-rows : goal.reorder-requires-clause-rows
reorder-requires-clause-rows c = rw c.in_ok-copy.ensures c.requires.rows

pub returns : goal.returns
returns c = subst (λ rows. HasSameRows rows (rows_of c.reorder.new.order)) c.in_ok-copy.ensures c.in_ok-reorder.ensures
