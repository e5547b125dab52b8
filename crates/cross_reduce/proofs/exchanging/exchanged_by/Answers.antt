use Rattle.std.proofs.Common.{rules}
use Rattle.std.proofs.lemmas.Result.{IfOk-weaker}
use Rattle.elk_layers.specs.Layered.{plain, rows_of}
use Rattle.cross_reduce.proofs.HeldLemmas.{none_better, not_held}
use Rattle.cross_reduce.proofs.exchanging.exchanged_by.Goals as goal

pub returns-clause-settled : goal.returns-clause-settled
returns-clause-settled c =
    let none = not_held c.as_slice.result.now (search rules) in
    IfOk-weaker c.exchanged_free_by.result _ _ (λ o free. none_better (plain c.args.layered.now) c.as_slice.result.now (rows_of o) none free) c.exchanged_free_by.ensures.settled

pub returns-clause-settles : goal.returns-clause-settles
returns-clause-settles c =
    let none = not_held c.as_slice.result.now (search rules) in
    IfOk-weaker c.exchanged_free_by.result _ _ (λ o settles. settles none) c.exchanged_free_by.ensures.settles
