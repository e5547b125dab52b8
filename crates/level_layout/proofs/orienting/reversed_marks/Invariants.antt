use Rattle.level_model.specs.Conditions.{plain_level}
use Rattle.level_layout.specs.Marks.{AreMarkedEdges}
use Rattle.level_layout.proofs.orienting.reversed_marks.Given as goal

abbrev pub invariant-loop-e : goal.invariant-loop-e
invariant-loop-e l = AreMarkedEdges (plain_level l.level) l.nodes l.keys l.arena l.e l.marks.items
