use Rattle.network_laws.specs.Lowering.{AreLeast}
use Rattle.network_laws.proofs.lower.find_least.Given as goal

abbrev pub invariant-loop-v : goal.invariant-loop-v
invariant-loop-v l = AreLeast l.parts l.layers l.v l.least
