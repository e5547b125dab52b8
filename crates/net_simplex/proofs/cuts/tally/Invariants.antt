use Rattle.std.proofs.Common.{length}
use Rattle.net_simplex.specs.Cuts.{IsTallied}
use Rattle.net_simplex.proofs.cuts.tally.Given as goal

abbrev pub invariant-loop-e : goal.invariant-loop-e
invariant-loop-e l = IsTallied (length l.initial.excess) l.edges l.e-index l.excess
