use Rattle.network_laws.specs.Lowering.{AreLowered}
use Rattle.network_laws.proofs.lower.lower_all.Given as goal

abbrev pub invariant-loop-v : goal.invariant-loop-v
invariant-loop-v l = AreLowered l.parts l.least l.v l.initial.layers l.layers
