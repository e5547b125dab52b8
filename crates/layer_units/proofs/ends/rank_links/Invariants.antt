use Rattle.std.proofs.Common.{map}
use Rattle.level_model.specs.Conditions.{plain_level}
use Rattle.layer_units.specs.Ports.{plain_ranks}
use Rattle.layer_units.specs.RankReading.{AreRankedLinks}
use Rattle.layer_units.proofs.ends.rank_links.Given as goal

abbrev pub invariant-loop-k : goal.invariant-loop-k
invariant-loop-k l = AreRankedLinks (plain_level l.ranking.level.now) l.ranking.table.now (map plain_ranks l.ranking.ranks.now) l.units l.ranking.marks.now l.initial.links l.k l.links
