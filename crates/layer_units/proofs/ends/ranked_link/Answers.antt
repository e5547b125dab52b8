use Rattle.std.proofs.Common.{map}
use Rattle.level_model.specs.Conditions.{plain_level}
use Rattle.layer_units.specs.Ports.{plain_ranks}
use Rattle.layer_units.proofs.RankReadLemmas.{link_made}
use Rattle.layer_units.proofs.ends.ranked_link.Goals as goal

pub returns-clause-value : goal.returns-clause-value
returns-clause-value c =
    link_made (plain_level c.args.ranking.now.level.now) c.args.ranking.now.table.now (map plain_ranks c.args.ranking.now.ranks.now) c.args.units.now c.args.ranking.now.marks.now c.args.link c.unit_rank.result c.unit_rank-2.result c.unit_rank.ensures.value c.unit_rank-2.ensures.value
