use Rattle.std.proofs.Common.{ℕ, ◌<◌}
use Rattle.layout_check.specs.BoxBounds.{OutlineHeld}
use Rattle.layout_check.specs.Levels.{at_level}
use Rattle.layout_check.proofs.box_bounds.add_children.Given as goal

abbrev pub invariant-loop-child : goal.invariant-loop-child
invariant-loop-child l = (k : ℕ) → k < l.child → at_level OutlineHeld l.level l.bounds k
