use Rattle.std.proofs.Common.{◌≡◌, ℕ, ◌<◌, length, get_or}
use Rattle.unit_blocks.proofs.placing.counting.Given as goal

abbrev pub invariant-loop-number : goal.invariant-loop-number
invariant-loop-number l = (length l.numbers.items ≡ l.number) × ((b : ℕ) → b < l.number → get_or l.numbers.items b 0 ≡ b)
