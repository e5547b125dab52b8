use Rattle.std.proofs.Common.{◌∙◌, subst, sym}
use Rattle.std.proofs.lemmas.Result.{IfOk-weaker}
use Rattle.elk_layers.specs.Layered.{plain, rows_of}
use Rattle.elk_layers.specs.Crossings.{HasSameRows}
use Rattle.cross_reduce.specs.Candidates.{IsKeptOrFewer}
use Rattle.cross_reduce.proofs.CandidateLemmas.{best_counted}
use Rattle.cross_reduce.proofs.LoweringLemmas.{exchanged_fewer, kept_settled}
use Rattle.cross_reduce.proofs.StateLemmas.{same_trans}
use Rattle.cross_reduce.proofs.reducing.searched.Goals as goal

pub search-requires-clause-best : goal.search-requires-clause-best
search-requires-clause-best c = best_counted (plain c.args.layered.now) c.args.settled c.in_ok-kept.kept c.requires.rows c.in_ok-kept.ensures.order c.in_ok-kept.ensures.crossings

pub returns-clause-same : goal.returns-clause-same
returns-clause-same c =
    let best = subst (λ order. HasSameRows (rows_of order) (rows_of c.in_ok-best.best.order)) c.in_ok-kept.ensures.order c.in_ok-best.ensures.best.same in
    IfOk-weaker c.exchanged.result _ _ (λ o same. same_trans (rows_of c.args.settled) (rows_of c.in_ok-best.best.order) (rows_of o) best same) c.exchanged.ensures.same

pub returns-clause-fewer : goal.returns-clause-fewer
returns-clause-fewer c =
    let best = subst (λ order. IsKeptOrFewer (plain c.args.layered.now) (rows_of order) (rows_of c.in_ok-best.best.order)) c.in_ok-kept.ensures.order c.in_ok-best.ensures.fewer in
    IfOk-weaker c.exchanged.result _ _
    (λ o settles. exchanged_fewer (plain c.args.layered.now) (rows_of c.args.settled) (rows_of c.in_ok-best.best.order) (rows_of o) c.requires.settled best settles)
    c.exchanged.ensures.settles

pub returns-then-best-before-clause-same : goal.returns-then-best-before-clause-same
returns-then-best-before-clause-same c = subst (λ order. HasSameRows (rows_of order) (rows_of c.in_ok-best.best.order)) c.in_ok-kept.ensures.order c.in_ok-best.ensures.best.same

pub returns-then-best-before-clause-fewer : goal.returns-then-best-before-clause-fewer
returns-then-best-before-clause-fewer c = subst (λ order. IsKeptOrFewer (plain c.args.layered.now) (rows_of order) (rows_of c.in_ok-best.best.order)) c.in_ok-kept.ensures.order c.in_ok-best.ensures.fewer

pub returns-then-best-before-clause-settled : goal.returns-then-best-before-clause-settled
returns-then-best-before-clause-settled c =
    kept_settled (plain c.args.layered.now) (rows_of c.args.settled) (rows_of c.in_ok-best.best.order) c.requires.settled (returns-then-best-before-clause-fewer c)
    (sym c.in_ok-best.ensures.best.counted ∙ c.if-best-before.true ∙ c.in_ok-kept.ensures.crossings)
