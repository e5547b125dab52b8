use Rattle.std.proofs.Common.{ℕ, ◌<◌}
use Rattle.layout_check.specs.BoxBounds.{BoundsApart, bounds_at}
use Rattle.layout_check.proofs.box_bounds.is_apart_from_later.Given as goal

abbrev pub invariant-loop-j : goal.invariant-loop-j
invariant-loop-j l = (k : ℕ) → l.i < k → k < l.j → BoundsApart l.one (bounds_at l.bounds k)
