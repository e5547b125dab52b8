use Rattle.std.proofs.Common.{◌∙◌, ap}
use Rattle.elk_layers.specs.Sweeps.{backward_sweep}
use Rattle.elk_layers.specs.Layered.{plain, rows_of}
use Rattle.cross_reduce.proofs.ReduceLemmas.{is_forward_rows, is_forward_same, is_two_rows, is_two_same}
use Rattle.cross_reduce.proofs.reducing.two_sweeps.Goals as goal

pub backward-requires-clause-rows : goal.backward-requires-clause-rows
backward-requires-clause-rows c = is_forward_rows (plain c.args.layered.now) (rows_of c.args.order.now) (rows_of c.in_ok-one.one) c.requires.sound c.requires.rows c.in_ok-one.ensures

pub returns-clause-one_rows : goal.returns-clause-one_rows
returns-clause-one_rows c = is_forward_rows (plain c.args.layered.now) (rows_of c.args.order.now) (rows_of c.in_ok-one-2.one) c.requires.sound c.requires.rows (c.in_ok-one-2.ensures.kept ∙ c.in_ok-one.ensures)

pub returns-clause-two_rows : goal.returns-clause-two_rows
returns-clause-two_rows c = is_two_rows (plain c.args.layered.now) (rows_of c.args.order.now) (rows_of c.in_ok-one-2.two) c.requires.sound c.requires.rows (c.in_ok-one-2.ensures.swept ∙ ap (backward_sweep (plain c.args.layered.now)) c.in_ok-one.ensures)

pub returns-clause-one_same : goal.returns-clause-one_same
returns-clause-one_same c = is_forward_same (plain c.args.layered.now) (rows_of c.args.order.now) (rows_of c.in_ok-one-2.one) (c.in_ok-one-2.ensures.kept ∙ c.in_ok-one.ensures)

pub returns-clause-two_same : goal.returns-clause-two_same
returns-clause-two_same c = is_two_same (plain c.args.layered.now) (rows_of c.args.order.now) (rows_of c.in_ok-one-2.two) (c.in_ok-one-2.ensures.swept ∙ ap (backward_sweep (plain c.args.layered.now)) c.in_ok-one.ensures)
