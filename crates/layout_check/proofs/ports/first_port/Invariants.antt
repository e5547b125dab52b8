use Rattle.std.proofs.Common.{ℕ, ◌<◌}
use Rattle.layout_check.specs.FirstPorts.{PortHolds}
use Rattle.layout_check.proofs.ports.first_port.Given as goal

abbrev pub invariant-loop-port : goal.invariant-loop-port
invariant-loop-port l = (k : ℕ) → k < l.port → PortHolds l.scene.doc.now l.scene.placed.now l.node k
