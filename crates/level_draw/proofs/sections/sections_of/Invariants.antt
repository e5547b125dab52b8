use Rattle.level_draw.specs.Joined.{AreJoined}
use Rattle.level_draw.proofs.sections.sections_of.Given as goal

abbrev pub invariant-loop-trace : goal.invariant-loop-trace
invariant-loop-trace l = AreJoined l.gaps l.traces l.trace-index l.sections.items
