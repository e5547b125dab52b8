use Rattle.std.proofs.Common.{◌∙◌, map, ap, sym}
use Rattle.std.specs.Prelude.{is_some}
use Rattle.level_model.specs.Conditions.{plain_level}
use Rattle.layer_units.specs.Ports.{plain_ranks}
use Rattle.layer_units.proofs.RankReadLemmas.{unit_child, unit_lane}
use Rattle.layer_units.proofs.ends.unit_rank.Goals as goal

pub returns-in-None-clause-value : goal.returns-in-None-clause-value
returns-in-None-clause-value c =
    sym (unit_lane (plain_level c.args.ranking.now.level.now) c.args.ranking.now.table.now (map plain_ranks c.args.ranking.now.ranks.now) c.args.unit c.args.edge c.args.at_source c.args.enters (ap is_some c.in-None.is))

pub returns-in-Some-clause-value : goal.returns-in-Some-clause-value
returns-in-Some-clause-value c =
    c.edge_rank.ensures.value
    ∙ sym (unit_child (plain_level c.args.ranking.now.level.now) c.args.ranking.now.table.now (map plain_ranks c.args.ranking.now.ranks.now) c.args.unit c.args.edge c.args.at_source c.args.enters (ap is_some c.in-Some.is))
