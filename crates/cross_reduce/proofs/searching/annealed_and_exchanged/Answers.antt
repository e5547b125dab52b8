use Rattle.std.proofs.lemmas.Result.{IfOk-weaker}
use Rattle.elk_layers.specs.Layered.{plain, rows_of}
use Rattle.cross_reduce.proofs.RowLemmas.{rows_permuted}
use Rattle.cross_reduce.proofs.StateLemmas.{same_trans}
use Rattle.cross_reduce.proofs.searching.annealed_and_exchanged.Goals as goal

pub exchanged-requires-clause-rows : goal.exchanged-requires-clause-rows
exchanged-requires-clause-rows c =
    rows_permuted (plain c.args.layered.now) (rows_of c.args.kept.now.order) (rows_of c.in_ok-order.order) c.requires.sound.layers_are c.requires.rows c.in_ok-order.ensures

pub returns-clause-same : goal.returns-clause-same
returns-clause-same c =
    IfOk-weaker c.exchanged.result _ _ (λ o same. same_trans (rows_of c.args.kept.now.order) (rows_of c.in_ok-order.order) (rows_of o) c.in_ok-order.ensures same) c.exchanged.ensures.same
