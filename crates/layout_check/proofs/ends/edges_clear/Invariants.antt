use Rattle.std.proofs.Common.{ℕ, ◌<◌}
use Rattle.layout_check.specs.FirstPorts.{EdgeClear}
use Rattle.layout_check.proofs.ends.edges_clear.Given as goal

abbrev pub invariant-loop-other : goal.invariant-loop-other
invariant-loop-other l = (f : ℕ) → f < l.other → EdgeClear l.scene.doc.now l.scene.placed.now l.node l.edge l.at_source f
