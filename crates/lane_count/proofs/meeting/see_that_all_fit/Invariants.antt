use Rattle.std.proofs.Common.{ℕ, ◌<◌, pos, get_or, w64, FitsSigned}
use Rattle.lane_count.proofs.meeting.see_that_all_fit.Given as goal

abbrev pub invariant-loop-number : goal.invariant-loop-number
invariant-loop-number l = (i : ℕ) → i < l.number-index → FitsSigned w64 (get_or l.list i (pos 0))
