use Rattle.std.proofs.Common.{ℕ, ◌<◌, ◌+◌}
use Rattle.layout_check.specs.Stretches.{point_of, IsFreeOf}
use Rattle.layout_check.proofs.sharing.are_free.Given as goal

abbrev pub invariant-loop-i : goal.invariant-loop-i
invariant-loop-i l = (k : ℕ) → k < l.i → IsFreeOf (point_of l.one k) (point_of l.one (k + 1)) l.other
