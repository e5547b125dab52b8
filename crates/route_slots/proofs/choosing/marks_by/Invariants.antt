use Rattle.std.proofs.Common.{◌≡◌, ℕ, ◌<◌, length}
use Rattle.route_slots.specs.Marks.{mark_at}
use Rattle.route_slots.specs.Choosing.{IsMovedMark}
use Rattle.route_slots.proofs.choosing.marks_by.Given as goal

abbrev pub invariant-marks : goal.invariant-marks
invariant-marks l =
    record {
      len : length l.others.items ≡ l.k;
      each : (k : ℕ) → k < l.k → IsMovedMark (mark_at l.marks k) (mark_at l.others.items k);
    }
