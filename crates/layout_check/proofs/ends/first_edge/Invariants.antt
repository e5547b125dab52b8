use Rattle.std.proofs.Common.{ℕ, ◌<◌}
use Rattle.layout_check.specs.FirstPorts.{EndsHold}
use Rattle.layout_check.proofs.ends.first_edge.Given as goal

abbrev pub invariant-loop-edge : goal.invariant-loop-edge
invariant-loop-edge l = (k : ℕ) → k < l.edge → EndsHold l.scene.doc.now l.scene.placed.now l.node k
