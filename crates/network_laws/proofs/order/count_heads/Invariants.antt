use Rattle.std.proofs.Common.{ℕ, ◌≤◌, get_or}
use Rattle.network_laws.proofs.order.count_heads.Given as goal

abbrev pub invariant-loop-e : goal.invariant-loop-e
invariant-loop-e l = (v : ℕ) → get_or l.counts v 0 ≤ l.e-index
