use Rattle.std.proofs.Common.{subst, IfNone}
use Rattle.std.proofs.lemmas.Result.{IfOk-weaker}
use Rattle.net_routes.specs.Uncrossed.{IsOrderable}
use Rattle.route_slots.proofs.Ranking.{one_orderable}
use Rattle.route_slots.proofs.uncrossing.uncrossed_slots.Goals as goal

pub returns-in-None : goal.returns-in-None
returns-in-None c =
    let none = subst (λ z. IfNone z (IsOrderable c.args.nets.now → ⊥)) c.in-None.is c.in_ok-ranked_depths.ensures.none in
    IfOk-weaker c.untangle.result _ _
    (λ slots s. record {
      free = s.laid.free;
      apart = s.laid.apart;
      splits = s.laid.splits;
      uncrossed = λ ranked. absurd (none ranked);
      one_conflict = λ one. absurd (one_orderable c.args.nets.now c.requires.pins c.requires.heights one none);
      exchanges = s.none;
    })
    c.untangle.ensures
