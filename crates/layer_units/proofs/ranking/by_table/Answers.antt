use Rattle.std.proofs.Common.{◌≡◌, ◌∙◌, [], ap, length, map, sym}
use Rattle.std.specs.Vec.{with_items}
use Rattle.std.proofs.lemmas.List.{with_items_is}
use Rattle.level_model.specs.Conditions.{plain_level, plain_plan}
use Rattle.layer_units.specs.Marks.{listed}
use Rattle.layer_units.specs.Ports.{plain_ranks}
use Rattle.layer_units.proofs.RankMadeLemmas.{made_of, table_ranking}
use Rattle.layer_units.proofs.RankedLemmas.{readable}
use Rattle.layer_units.proofs.ranking.by_table.Goals as goal

pub table_of-requires-clause-is_reversed : goal.table_of-requires-clause-is_reversed
table_of-requires-clause-is_reversed c = (listed c.args.is_reversed.now, c.requires.is_reversed)

pub rank_links-requires-clause-ranking : goal.rank_links-requires-clause-ranking
rank_links-requires-clause-ranking c =
    let made = made_of c.args.level.now c.args.layered c.args.order.now c.in_ok-table.table c.args.is_reversed.now c.in_ok-ranks.ranks.items c.as_slice.result.now
    c.requires.level c.requires.sound c.requires.is_reversed c.in_ok-table.ensures.table c.in_ok-table.ensures.numbers c.in_ok-ranks.ensures c.as_slice.ensures.value
    in
    readable (plain_level c.args.level.now) (plain_plan c.args.layered c.args.order.now [] (listed c.args.is_reversed.now)) made.0 c.in_ok-table.table c.args.is_reversed.now (map plain_ranks c.as_slice.result.now) made.1

pub returns : goal.returns
returns c =
    let made = made_of c.args.level.now c.args.layered c.args.order.now c.in_ok-table.table c.args.is_reversed.now c.in_ok-ranks.ranks.items c.as_slice.result.now
    c.requires.level c.requires.sound c.requires.is_reversed c.in_ok-table.ensures.table c.in_ok-table.ensures.numbers c.in_ok-ranks.ensures c.as_slice.ensures.value
    in
    let items : (with_items c.args.layered.links c.rank_links.new.links).items ≡ c.rank_links.new.links =
    with_items_is c.args.layered.links c.rank_links.new.links (c.rank_links.ensures.as_many ∙ ap length c.as_mut_slice.ensures.value ∙ sym c.args.layered.links.ok.0)
    in
    table_ranking (plain_level c.args.level.now) (plain_plan c.args.layered c.args.order.now [] (listed c.args.is_reversed.now)) made.0 c.in_ok-table.table c.args.is_reversed.now (map plain_ranks c.as_slice.result.now)
    c.as_slice-2.result.now c.as_mut_slice.result.now c.rank_links.new.links (with_items c.args.layered.links c.rank_links.new.links).items made.1 c.as_slice-2.ensures.value c.as_mut_slice.ensures.value items c.rank_links.ensures
