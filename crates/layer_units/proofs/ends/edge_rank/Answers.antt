use Rattle.std.proofs.Common.{◌≡◌, ◌∙◌, [], true, length, get_or, map, arith, sym, subst}
use Rattle.std.proofs.lemmas.List.{get_or_read, length-map}
use Rattle.level_model.specs.declared.level.EdgeEnd.{EdgeEnd}
use Rattle.level_model.specs.Conditions.{IsSpoke, plain_level}
use Rattle.level_model.specs.Level.{child_at}
use Rattle.level_model.specs.Units.{is_fixed}
use Rattle.level_model.proofs.SpotLemmas.{spoke_there}
use Rattle.dock_table.specs.Bounds.{IsEndIn}
use Rattle.port_order.specs.declared.children.Child.{Child}
use Rattle.layer_units.specs.Ports.{PlainRanks, plain_ranks}
use Rattle.layer_units.specs.RankReading.{HasRanksIn}
use Rattle.layer_units.proofs.RankReadLemmas.{edge_made, end_near, ranks_read}
use Rattle.layer_units.proofs.ends.edge_rank.Goals as goal

pub child_rank-requires-clause-ranks : goal.child_rank-requires-clause-ranks
child_rank-requires-clause-ranks c =
    let l = plain_level c.args.ranking.now.level.now in
    let vs = c.args.ranking.now.ranks.now in
    let there : IsSpoke l c.spoke_of-spoke.result = subst (λ (s : EdgeEnd). IsSpoke l s) (sym c.spoke_of-spoke.ensures) (spoke_there l c.args.edge c.args.at_source c.requires.ranking.level c.requires.edge) in
    let child = get_or_read l.children c.spoke_of-spoke.result.child c.at-child.result.now there.child c.at-child.ensures (child_at (record { children = []; edges = []; spacing = l.spacing; choices = l.choices }) 0) in
    let many = c.requires.ranking.as_many_ranks in
    let same = length-map vs plain_ranks in
    let inside = there.child in
    subst (λ (x : Child). is_fixed x.rule ≡ true → HasRanksIn x (plain_ranks (get_or vs c.spoke_of-spoke.result.child c.index-ranking-spoke.result))) (sym child)
    (subst (λ (v : PlainRanks). is_fixed (child_at l c.spoke_of-spoke.result.child).rule ≡ true → HasRanksIn (child_at l c.spoke_of-spoke.result.child) v)
    (sym (ranks_read vs c.spoke_of-spoke.result.child c.index-ranking-spoke.result (omega (arith, inside, many, same))))
    (c.requires.ranking.ranks c.spoke_of-spoke.result.child there.child))

pub child_rank-requires-clause-end : goal.child_rank-requires-clause-end
child_rank-requires-clause-end c =
    subst IsEndIn (sym c.end-end.ensures) (end_near c.args.ranking.now.table.now (length c.args.ranking.now.level.now.edges) c.args.edge c.args.at_source c.requires.ranking.numbers c.requires.ranking.as_many_ends c.requires.edge)

pub returns-clause-value : goal.returns-clause-value
returns-clause-value c =
    let l = plain_level c.args.ranking.now.level.now in
    let vs = c.args.ranking.now.ranks.now in
    let there : IsSpoke l c.spoke_of-spoke.result = subst (λ (s : EdgeEnd). IsSpoke l s) (sym c.spoke_of-spoke.ensures) (spoke_there l c.args.edge c.args.at_source c.requires.ranking.level c.requires.edge) in
    let child = get_or_read l.children c.spoke_of-spoke.result.child c.at-child.result.now there.child c.at-child.ensures (child_at (record { children = []; edges = []; spacing = l.spacing; choices = l.choices }) 0) in
    let many = c.requires.ranking.as_many_ranks in
    let same = length-map vs plain_ranks in
    let inside = there.child in
    c.child_rank.ensures.value
    ∙ edge_made l c.args.ranking.now.table.now (map plain_ranks vs) c.args.edge c.args.at_source c.args.enters c.spoke_of-spoke.result c.at-child.result.now (plain_ranks (get_or vs c.spoke_of-spoke.result.child c.index-ranking-spoke.result)) c.end-end.result
    c.spoke_of-spoke.ensures child (ranks_read vs c.spoke_of-spoke.result.child c.index-ranking-spoke.result (omega (arith, inside, many, same))) c.end-end.ensures
