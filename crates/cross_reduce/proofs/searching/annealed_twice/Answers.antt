use Rattle.elk_layers.specs.Layered.{plain, rows_of}
use Rattle.cross_reduce.proofs.CandidateLemmas.{best_self, best_trans}
use Rattle.cross_reduce.proofs.LoweringLemmas.{kept_or_fewer_trans}
use Rattle.cross_reduce.proofs.searching.annealed_twice.Goals as goal

pub annealed_by-requires-2-clause-best : goal.annealed_by-requires-2-clause-best
annealed_by-requires-2-clause-best c = best_self (plain c.args.layered.now) (rows_of c.args.kept.order) c.in_ok-once.once c.in_ok-once.ensures.best

pub returns-clause-best : goal.returns-clause-best
returns-clause-best c = best_trans (plain c.args.layered.now) (rows_of c.args.kept.order) c.in_ok-once.once c.in_ok-best.best c.in_ok-once.ensures.best c.in_ok-best.ensures.best

pub returns-clause-fewer : goal.returns-clause-fewer
returns-clause-fewer c =
    kept_or_fewer_trans (plain c.args.layered.now) (rows_of c.args.kept.order) (rows_of c.in_ok-once.once.order) (rows_of c.in_ok-best.best.order) c.in_ok-once.ensures.fewer c.in_ok-best.ensures.fewer
