use Rattle.std.proofs.Common.{◌≡◌, ℕ, ◌<◌, length, get_or}
use Rattle.separation.proofs.walk.positions.Given as goal

abbrev pub invariant-loop-i : goal.invariant-loop-i
invariant-loop-i l =
    (length l.position.items ≡ l.count) × ((p : ℕ) → p < l.i → get_or l.position.items (get_or l.order p 0) 0 ≡ p)
