use Rattle.std.proofs.Common.{ℕ, ◌<◌, length}
use Rattle.layout_check.specs.BoxBounds.{BoundsApart, bounds_at}
use Rattle.layout_check.proofs.box_bounds.are_apart.Given as goal

abbrev pub invariant-loop-i : goal.invariant-loop-i
invariant-loop-i l = (k j : ℕ) → k < l.i → k < j → j < length l.bounds → BoundsApart (bounds_at l.bounds k) (bounds_at l.bounds j)
