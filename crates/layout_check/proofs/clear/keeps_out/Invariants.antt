use Rattle.std.proofs.Common.{ℕ, ◌<◌, ◌+◌}
use Rattle.drawing_types.specs.Segments.{EntersRect}
use Rattle.layout_check.specs.Stretches.{point_of}
use Rattle.layout_check.proofs.clear.keeps_out.Given as goal

abbrev pub invariant-loop-i : goal.invariant-loop-i
invariant-loop-i l = (k : ℕ) → k < l.i → EntersRect (point_of l.section k) (point_of l.section (k + 1)) l.r → ⊥
