use Rattle.std.proofs.Common.{◌≡◌, ◌-◌, length}
use Rattle.ns_place.specs.Closing.{standing_at, IsClosedTo}
use Rattle.ns_place.proofs.closing.close_all.Given as goal

abbrev pub invariant-loop-s : goal.invariant-loop-s
invariant-loop-s l =
    (length l.closed ≡ length l.initial.closed)
    × IsClosedTo l.standings l.s-index (standing_at l.standings (l.s-index - 1)).top l.shift l.reach l.closed
