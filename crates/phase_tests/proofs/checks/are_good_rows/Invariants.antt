use Rattle.std.proofs.Common.{ℕ, ◌<◌}
use Rattle.elk_layers.specs.Layered.{row_at, rows_of}
use Rattle.bk_place.specs.Checked.{IsGoodRow}
use Rattle.phase_tests.proofs.checks.are_good_rows.Given as goal

abbrev pub invariant-loop-r : goal.invariant-loop-r
invariant-loop-r l = (q : ℕ) → q < l.r → IsGoodRow l.units q (row_at (rows_of l.order) q)
