use Rattle.std.proofs.Common.{refl, inl}
use Rattle.elk_layers.specs.Layered.{plain, rows_of}
use Rattle.cross_reduce.proofs.CandidateLemmas.{best_self, best_trans}
use Rattle.cross_reduce.proofs.LoweringLemmas.{kept_or_fewer_trans}
use Rattle.cross_reduce.proofs.searching.best_start.Goals as goal

pub loop-start-init : goal.loop-start-init
loop-start-init c = record { best = c.requires.best; fewer = inl refl }

pub fewer_after-requires-clause-best : goal.fewer_after-requires-clause-best
fewer_after-requires-clause-best c = best_self (plain c.args.layered.now) (rows_of c.args.kept.order) c.loop-start.kept c.loop-start.invariant.best

pub loop-start-preserved : goal.loop-start-preserved
loop-start-preserved c =
    record {
      best = best_trans (plain c.args.layered.now) (rows_of c.args.kept.order) c.loop-start.kept c.in_ok-kept.kept c.loop-start.invariant.best c.in_ok-kept.ensures.best;
      fewer = kept_or_fewer_trans (plain c.args.layered.now) (rows_of c.args.kept.order) (rows_of c.loop-start.kept.order) (rows_of c.in_ok-kept.kept.order) c.loop-start.invariant.fewer c.in_ok-kept.ensures.fewer;
    }
