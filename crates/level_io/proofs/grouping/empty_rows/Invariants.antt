use Rattle.std.proofs.Common.{◌≡◌, ℕ, [], length}
use Rattle.level_io.specs.Grouping.{row_at, rows_in}
use Rattle.level_io.proofs.grouping.empty_rows.Given as goal

abbrev pub invariant-loop : goal.invariant-loop
invariant-loop l = (length l.rows.items ≡ l.counter) × ((k : ℕ) → row_at (rows_in l.rows.items) k ≡ [])
