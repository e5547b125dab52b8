use Rattle.network_laws.specs.Parts.{AreNumberedTo}
use Rattle.network_laws.proofs.parts.number_names.Given as goal

abbrev pub invariant-loop-v : goal.invariant-loop-v
invariant-loop-v l = AreNumberedTo l.names l.numbers l.count l.v
