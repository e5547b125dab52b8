use Rattle.std.proofs.Common.{ℕ, ◌<◌, ◌≤◌, get_or}
use Rattle.cross_reduce.proofs.counting.highest.Given as goal

abbrev pub invariant-loop-head : goal.invariant-loop-head
invariant-loop-head l = (j : ℕ) → j < l.head-index → get_or l.heads j 0 ≤ l.top
