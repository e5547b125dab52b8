use Rattle.std.proofs.Common.{IfOk, sym, subst}
use Rattle.level_model.specs.FromPlan.{AreSlots}
use Rattle.level_nets.proofs.borders.slots_for.Goals as goal

pub returns-in-Fewest : goal.returns-in-Fewest
returns-in-Fewest c =
    subst (λ s. IfOk c.assign_near.result (λ v. AreSlots s c.args.nets.now v.count v.routes.items)) (sym c.in-Fewest.is) c.assign_near.ensures

pub returns-in-Uncrossed : goal.returns-in-Uncrossed
returns-in-Uncrossed c =
    subst (λ s. IfOk c.assign_uncrossed_near.result (λ v. AreSlots s c.args.nets.now v.count v.routes.items)) (sym c.in-Uncrossed.is) c.assign_uncrossed_near.ensures
