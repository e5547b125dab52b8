use Rattle.elk_layers.specs.Layered.{plain, rows_of}
use Rattle.cross_reduce.proofs.CandidateLemmas.{settled_again, settled_trans}
use Rattle.cross_reduce.proofs.searching.search_on.Goals as goal

pub annealed_again-requires-clause-settled : goal.annealed_again-requires-clause-settled
annealed_again-requires-clause-settled c =
    settled_again (plain c.args.layered.now) (rows_of c.args.kept.order) c.loop-seed.kept c.loop-seed.invariant

pub loop-seed-preserved : goal.loop-seed-preserved
loop-seed-preserved c =
    settled_trans (plain c.args.layered.now) (rows_of c.args.kept.order) c.loop-seed.kept c.in_ok-kept.kept c.loop-seed.invariant c.in_ok-kept.ensures
