use Rattle.std.proofs.Common.{◌≡◌, ℕ, ◌<◌, get_or}
use Rattle.std.specs.Prelude.{map}
use Rattle.elk_shell.specs.Line.{in_line}
use Rattle.elk_shell.proofs.line.blank_feeds.Given as goal

abbrev pub invariant-loop-byte : goal.invariant-loop-byte
invariant-loop-byte l =
    (map in_line l.bytes ≡ map in_line l.initial.bytes)
    × ((k : ℕ) → k < l.byte-index → in_line (get_or l.bytes k 0) ≡ get_or l.bytes k 0)
