use Rattle.level_split.specs.Gathered.{AreLayers}
use Rattle.level_split.proofs.certificate.layers_of.Given as goal

abbrev pub invariant-loop-i : goal.invariant-loop-i
invariant-loop-i l = AreLayers l.outs l.parts l.places l.i l.layers.items
