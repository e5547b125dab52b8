use Rattle.std.proofs.Common.{length}
use Rattle.flow_dual.proofs.Waiting.{AreListed}
use Rattle.flow_dual.proofs.sources.listed.Given as goal

abbrev pub invariant-loop-v : goal.invariant-loop-v
invariant-loop-v l = AreListed (length l.layer) l.excess l.v l.sources.items
