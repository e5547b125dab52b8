use Rattle.std.proofs.Common.{ℕ, ◌<◌}
use Rattle.std.specs.List.{All}
use Rattle.separation.specs.Due.{IsDue, HasDue}
use Rattle.separation.proofs.walk.due_bounds.Given as goal

abbrev pub invariant-loop-k : goal.invariant-loop-k
invariant-loop-k l =
    All (IsDue l.bounds l.position) l.due.items × ((j : ℕ) → j < l.k → HasDue l.due.items j)
