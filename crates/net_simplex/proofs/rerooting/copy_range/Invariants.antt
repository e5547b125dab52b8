use Rattle.std.proofs.Common.{◌≡◌, ℕ, ◌<◌, ◌≤◌, ◌⊎◌, get_or}
use Rattle.net_simplex.proofs.rerooting.copy_range.Given as goal

abbrev pub invariant-loop-p : goal.invariant-loop-p
invariant-loop-p l =
    ((q : ℕ) → l.low ≤ q → q < l.p → get_or l.to q 0 ≡ get_or l.from q 0)
    × ((q : ℕ) → ((q < l.low) ⊎ (l.p ≤ q)) → get_or l.to q 0 ≡ get_or l.initial.to q 0)
