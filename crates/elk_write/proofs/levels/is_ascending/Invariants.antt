use Rattle.std.proofs.Common.{◌≡◌, drop}
use Rattle.elk_write.specs.Reading.{are_from}
use Rattle.elk_write.proofs.levels.is_ascending.Given as goal

abbrev pub invariant-loop-number : goal.invariant-loop-number
invariant-loop-number l = are_from 0 l.numbers ≡ are_from l.low (drop l.number-index l.numbers)
