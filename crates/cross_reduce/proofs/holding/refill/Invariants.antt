use Rattle.cross_reduce.specs.Held.{is_held}
use Rattle.cross_reduce.specs.HeldRows.{numbers_of}
use Rattle.cross_reduce.proofs.MeanLemmas.{Refills}
use Rattle.cross_reduce.proofs.holding.refill.Given as goal

abbrev pub invariant-loop-unit : goal.invariant-loop-unit
invariant-loop-unit l = Refills (is_held l.held) l.row (numbers_of l.from) l.list.items l.unit-index l.taken
