use Rattle.network_parts.specs.Dividing.{AreCounted}
use Rattle.network_parts.proofs.dividing.count_parts.Given as goal

abbrev pub invariant-loop-number : goal.invariant-loop-number
invariant-loop-number l = AreCounted l.numbers l.number-index l.count
