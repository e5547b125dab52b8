use Rattle.std.proofs.Common.{◌≡◌, ℕ, [], length}
use Rattle.level_parts.specs.Groups.{lists_of, row_at}
use Rattle.level_parts.proofs.grouping.empty_rows.Given as goal

abbrev pub invariant-loop : goal.invariant-loop
invariant-loop l = (length l.rows.items ≡ l.counter) × ((k : ℕ) → row_at (lists_of l.rows.items) k ≡ [])
