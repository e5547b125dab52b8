use Rattle.level_split.specs.Gathered.{ArePorts}
use Rattle.level_split.proofs.drawing.ports_of.Given as goal

abbrev pub invariant-loop-i : goal.invariant-loop-i
invariant-loop-i l = ArePorts l.outs l.parts l.places l.i l.ports.items
