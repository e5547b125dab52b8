use Rattle.elk_layers.specs.Layered.{plain, rows_of}
use Rattle.cross_reduce.specs.Candidates.{IsSettledFrom}
use Rattle.cross_reduce.proofs.searching.search_on.Given as goal

abbrev pub invariant-loop-seed : goal.invariant-loop-seed
invariant-loop-seed l = IsSettledFrom (plain l.layered) (rows_of l.initial.kept.order) l.kept
