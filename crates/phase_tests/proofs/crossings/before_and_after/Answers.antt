use Rattle.elk_layers.specs.Layered.{plain, rows_of}
use Rattle.cross_reduce.proofs.RowLemmas.{rows_permuted}
use Rattle.phase_tests.proofs.crossings.before_and_after.Goals as goal

pub crossings-requires-2-clause-rows : goal.crossings-requires-2-clause-rows
crossings-requires-2-clause-rows c =
    rows_permuted (plain c.args.layered.now) (rows_of c.args.start) (rows_of c.in_ok-order.order) c.requires.sound.layers_are c.requires.rows c.in_ok-order.ensures.same_rows
