use Rattle.std.proofs.Common.{◌≡◌, ◌+◌, ◌*◌, cond, false, length}
use Rattle.std.specs.List.{sum}
use Rattle.network_laws.specs.Parts.{AreNames, HaveOneName}
use Rattle.network_laws.proofs.parts.join_all.Given as goal

abbrev pub invariant-loop-changed : goal.invariant-loop-changed
invariant-loop-changed l =
    (length l.names ≡ length l.initial.names)
    × AreNames (length l.initial.names) l.edges l.names
    × (l.changed ≡ false → HaveOneName l.edges l.names (length l.edges))

abbrev pub decreases-loop-changed : goal.decreases-loop-changed
decreases-loop-changed l = cond l.changed 1 0 + 2 * sum l.names
