use Rattle.std.proofs.Common.{ℕ, ◌<◌}
use Rattle.layout_check.specs.Bounds.{HoldsPoint}
use Rattle.layout_check.specs.Stretches.{point_of}
use Rattle.layout_check.proofs.bounds.bounds_of.Given as goal

abbrev pub invariant-loop-i : goal.invariant-loop-i
invariant-loop-i l = (k : ℕ) → k < l.i → HoldsPoint l.bounds (point_of l.section k)
