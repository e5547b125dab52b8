use Rattle.std.proofs.Common.{ℕ, ◌<◌}
use Rattle.bk_place.specs.Checked.{IsGoodPlace}
use Rattle.phase_tests.proofs.checks.is_good_row.Given as goal

abbrev pub invariant-loop-i : goal.invariant-loop-i
invariant-loop-i l = (j : ℕ) → j < l.i → IsGoodPlace l.units l.layer l.row j
