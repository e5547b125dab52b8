use Rattle.std.proofs.Common.{ℕ, ◌<◌}
use Rattle.layout_check.specs.FirstPorts.{PortClear}
use Rattle.layout_check.proofs.ends.ports_clear.Given as goal

abbrev pub invariant-loop-port : goal.invariant-loop-port
invariant-loop-port l = (k : ℕ) → k < l.port → PortClear l.scene.doc.now l.scene.placed.now l.node l.edge l.at_source k
