use Rattle.std.proofs.Common.{length}
use Rattle.level_model.specs.Conditions.{plain_level}
use Rattle.level_layout.specs.Marks.{AreNodes}
use Rattle.level_layout.specs.Chained.{AreLinks}
use Rattle.level_layout.proofs.chaining.add_links.Given as goal

abbrev pub invariant-loop-e : goal.invariant-loop-e
invariant-loop-e l = AreNodes l.arena (length l.level.children) l.nodes × AreLinks (plain_level l.level) l.is_reversed l.nodes l.arena l.e l.keys.items
