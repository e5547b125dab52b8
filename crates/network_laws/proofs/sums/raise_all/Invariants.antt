use Rattle.std.proofs.Common.{◌≡◌, ◌+◌, ◌-◌, ◌*◌, ◌^◌, cond, false, length}
use Rattle.std.specs.List.{sum}
use Rattle.network_laws.specs.Paths.{ArePathSums, KeepLeast}
use Rattle.network_laws.proofs.sums.raise_all.Given as goal

abbrev pub invariant-loop-changed : goal.invariant-loop-changed
invariant-loop-changed l =
    (length l.sums ≡ length l.initial.sums)
    × ArePathSums l.edges l.sums
    × (l.changed ≡ false → KeepLeast l.edges l.sums (length l.edges))

abbrev pub decreases-loop-changed : goal.decreases-loop-changed
decreases-loop-changed l = cond l.changed 1 0 + 2 * (length l.sums * 2 ^ 62 - sum l.sums)
