use Rattle.level_split.specs.Gathered.{AreLayouts}
use Rattle.level_split.proofs.layouts.layouts_of.Given as goal

abbrev pub invariant-loop-i : goal.invariant-loop-i
invariant-loop-i l = AreLayouts l.parts l.i l.outs.items
