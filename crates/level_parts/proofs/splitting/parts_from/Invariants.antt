use Rattle.level_parts.specs.Split.{ArePartLevels}
use Rattle.level_parts.proofs.splitting.parts_from.Given as goal

abbrev pub invariant-loop-k : goal.invariant-loop-k
invariant-loop-k l = ArePartLevels l.level l.children.keys.items l.k l.parts.items
