use Rattle.std.proofs.Common.{◌<◌}
use Rattle.net_simplex.specs.Chosen.{IsLowest}
use Rattle.net_simplex.proofs.chain.leaving.Given as goal

abbrev pub invariant-loop-v : goal.invariant-loop-v
invariant-loop-v l = (0 < l.v) × IsLowest l.tree.marks.items l.tree.parent.items l.cut l.v l.lowest
