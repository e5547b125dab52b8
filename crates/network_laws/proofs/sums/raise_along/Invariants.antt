use Rattle.std.proofs.Common.{◌≡◌, length}
use Rattle.network_laws.specs.Paths.{ArePathSums}
use Rattle.network_laws.proofs.sums.raise_along.Given as goal

abbrev pub invariant-loop-k : goal.invariant-loop-k
invariant-loop-k l = (length l.sums ≡ length l.initial.sums) × ArePathSums l.edges l.sums
