use Rattle.std.proofs.Common.{◌<◌, ℕ, subst}
use Rattle.route_slots.proofs.RankLemmas.{not_orderable, all_depths}
use Rattle.route_slots.proofs.ranks.rank_nets.Goals as goal

pub returns-clause-yes : goal.returns-clause-yes
returns-clause-yes c = λ e. all_depths c.args.nets.now c.rank_all-next.new.depths c.rank_all-next.result c.rank_all-next.ensures.ranks (c.all_ranked.ensures.yes e)

pub returns-clause-no : goal.returns-clause-no
returns-clause-no c = λ e.
    let w = c.all_ranked.ensures.no e in
    not_orderable c.args.nets.now c.rank_all-next.new.depths c.rank_all-next.ensures.none w.0 (subst (λ (n : ℕ). w.0 < n) c.rank_all-next.ensures.ranks.len w.1) w.2
