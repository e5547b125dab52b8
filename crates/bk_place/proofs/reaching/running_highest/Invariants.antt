use Rattle.std.proofs.Common.{◌≡◌, ◌+◌, ◌<◌, ℕ, length, get_or}
use Rattle.bk_place.specs.Marks.{IsHighest}
use Rattle.bk_place.proofs.reaching.running_highest.Given as goal

abbrev pub invariant-loop-pin : goal.invariant-loop-pin
invariant-loop-pin l =
    (length l.highest.items ≡ l.pin-index + 1) × IsHighest l.pins l.pin-index l.top
    × ((count : ℕ) → count < l.pin-index + 1 → IsHighest l.pins count (get_or l.highest.items count 0))
