use Rattle.std.proofs.Common.{◌≡◌, false, rules}
use Rattle.route_slots.specs.NetDepths.{net_depth}
use Rattle.route_slots.specs.Ranks.{no_rank}
use Rattle.route_slots.proofs.RankLemmas.{one_more}
use Rattle.route_slots.proofs.ranks.rank.Goals as goal

pub returns-clause-yes : goal.returns-clause-yes
returns-clause-yes c =
    let waiting : net_depth c.args.depths.now c.args.number ≡ no_rank = search rules in
    let none : c.is_held_back.result ≡ false = search rules in
    λ e. one_more c.args.nets.now c.args.depths.now c.args.next c.args.number c.requires.few c.requires.ranks c.requires.net waiting (c.is_held_back.ensures.no none)
