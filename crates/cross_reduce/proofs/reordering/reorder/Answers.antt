use Rattle.std.proofs.Common.{arith}
use Rattle.elk_layers.specs.Layered.{plain, rows_of}
use Rattle.cross_reduce.proofs.RowLemmas.{rows_permuted}
use Rattle.cross_reduce.proofs.StateLemmas.{same_refl, same_trans}
use Rattle.cross_reduce.proofs.reordering.reorder.Goals as goal

pub loop-r-init : goal.loop-r-init
loop-r-init c = same_refl (rows_of c.args.order.now)

pub reorder_row-requires-clause-rows : goal.reorder_row-requires-clause-rows
reorder_row-requires-clause-rows c =
    rows_permuted (plain c.args.layered.now) (rows_of c.args.order.now) (rows_of c.loop-r.order) c.requires.sound.layers_are c.requires.rows c.loop-r.invariant

pub reorder_row-requires-clause-row : goal.reorder_row-requires-clause-row
reorder_row-requires-clause-row c =
    let all = c.requires.rows.as_many in
    let same = c.loop-r.invariant.as_many in
    omega (arith, all, same, c.loop-r-test.true)

pub loop-r-preserved : goal.loop-r-preserved
loop-r-preserved c = same_trans (rows_of c.args.order.now) (rows_of c.loop-r.order) (rows_of c.reorder_row.new.order) c.loop-r.invariant c.in_ok-reorder_row.ensures
