use Rattle.std.proofs.Common.{ℕ, ◌<◌, ◌+◌}
use Rattle.drawing_types.specs.Segments.{Share}
use Rattle.layout_check.specs.Stretches.{point_of}
use Rattle.layout_check.proofs.sharing.is_free_of.Given as goal

abbrev pub invariant-loop-j : goal.invariant-loop-j
invariant-loop-j l = (k : ℕ) → k < l.j → Share l.a l.b (point_of l.section k) (point_of l.section (k + 1)) → ⊥
