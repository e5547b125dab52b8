use Rattle.std.proofs.Common.{ℕ, ◌<◌}
use Rattle.layout_check.specs.FirstPorts.{PairHolds}
use Rattle.layout_check.proofs.ports.lower_hold.Given as goal

abbrev pub invariant-loop-other : goal.invariant-loop-other
invariant-loop-other l = (j : ℕ) → j < l.other → PairHolds l.scene.doc.now l.scene.placed.now l.node j l.port
