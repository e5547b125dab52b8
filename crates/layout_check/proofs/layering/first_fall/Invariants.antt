use Rattle.std.proofs.Common.{ℕ, ◌<◌}
use Rattle.layout_check.specs.FirstLevels.{EdgeRises}
use Rattle.layout_check.proofs.layering.first_fall.Given as goal

abbrev pub invariant-loop-edge : goal.invariant-loop-edge
invariant-loop-edge l = (k : ℕ) → k < l.edge → EdgeRises l.scene.doc.now l.scene.placed.now l.node l.certificate k
