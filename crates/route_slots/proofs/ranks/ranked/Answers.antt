use Rattle.std.proofs.Common.{◌∙◌}
use Rattle.route_slots.proofs.RankLemmas.{none_ranked}
use Rattle.route_slots.proofs.ranks.ranked.Goals as goal

pub rank_nets-requires-clause-ranks : goal.rank_nets-requires-clause-ranks
rank_nets-requires-clause-ranks c =
    none_ranked c.args.nets.now c.as_mut_slice.result.now (c.as_mut_slice.ensures.value ∙ c.in_ok-depths.ensures.items_if_clones_equal (λ y e. e))
