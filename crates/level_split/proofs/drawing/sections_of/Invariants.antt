use Rattle.level_split.specs.Gathered.{AreSections}
use Rattle.level_split.proofs.drawing.sections_of.Given as goal

abbrev pub invariant-loop-i : goal.invariant-loop-i
invariant-loop-i l = AreSections l.outs l.at l.parts l.places l.i l.sections.items
