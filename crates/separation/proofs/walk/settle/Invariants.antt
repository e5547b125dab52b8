use Rattle.separation.proofs.LinesLemmas.{LinesSoFar}
use Rattle.separation.proofs.walk.settle.Given as goal

abbrev pub invariant-loop-d : goal.invariant-loop-d
invariant-loop-d l = LinesSoFar l.initial.value l.bounds l.due l.d-index l.value l.tight
