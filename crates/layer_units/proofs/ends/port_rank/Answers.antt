use Rattle.std.proofs.Common.{◌∙◌, ap₂, sym}
use Rattle.level_model.specs.Units.{lane_rank}
use Rattle.layer_units.specs.Ports.{plain_ranks}
use Rattle.layer_units.proofs.RankReadLemmas.{on_lane}
use Rattle.layer_units.proofs.ends.port_rank.Goals as goal

pub returns-then-is_on_lane-clause-value : goal.returns-then-is_on_lane-clause-value
returns-then-is_on_lane-clause-value c =
    c.lane_rank.ensures.value
    ∙ ap₂ (λ m s. lane_rank m s) c.last_in-last.ensures.value c.end_side.ensures
    ∙ sym (on_lane c.args.child.now (plain_ranks c.args.ranks.now) c.args.end c.args.port c.args.enters (sym c.is_spread.ensures ∙ c.if-is_spread.false) (sym c.is_on_lane.ensures ∙ c.if-is_on_lane.true))
