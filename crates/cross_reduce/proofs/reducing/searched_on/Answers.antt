use Rattle.std.proofs.Common.{subst, sym}
use Rattle.elk_layers.specs.Layered.{plain, rows_of}
use Rattle.elk_layers.specs.Crossings.{HasSameRows, NoBetterSwap}
use Rattle.cross_reduce.specs.Candidates.{IsKeptOrFewer}
use Rattle.cross_reduce.proofs.CandidateLemmas.{best_counted, settled_self}
use Rattle.cross_reduce.proofs.reducing.searched_on.Goals as goal

pub search_on-requires-clause-settled : goal.search_on-requires-clause-settled
search_on-requires-clause-settled c =
    settled_self (plain c.args.layered.now) c.in_ok-kept.kept
    (best_counted (plain c.args.layered.now) c.args.settled c.in_ok-kept.kept c.requires.rows c.in_ok-kept.ensures.order c.in_ok-kept.ensures.crossings)
    (subst (λ order. NoBetterSwap (plain c.args.layered.now) (rows_of order)) (sym c.in_ok-kept.ensures.order) c.requires.settled)

pub returns-clause-same : goal.returns-clause-same
returns-clause-same c = subst (λ order. HasSameRows (rows_of order) (rows_of c.in_ok-best.best.order)) c.in_ok-kept.ensures.order c.in_ok-best.ensures.best.same

pub returns-clause-fewer : goal.returns-clause-fewer
returns-clause-fewer c = subst (λ order. IsKeptOrFewer (plain c.args.layered.now) (rows_of order) (rows_of c.in_ok-best.best.order)) c.in_ok-kept.ensures.order c.in_ok-best.ensures.fewer
