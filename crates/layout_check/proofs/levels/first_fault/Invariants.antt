use Rattle.std.proofs.Common.{ℕ, ◌<◌}
use Rattle.layout_check.specs.Definitions.{HoldsAt}
use Rattle.layout_check.proofs.levels.first_fault.Given as goal

abbrev pub invariant-loop-node : goal.invariant-loop-node
invariant-loop-node l = (m : ℕ) → m < l.node → HoldsAt l.definition l.scene.doc.now l.scene.placed.now m
