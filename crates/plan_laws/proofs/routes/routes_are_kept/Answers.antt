use Rattle.level_model.proofs.EndLemmas.{child_stands}
use Rattle.plan_laws.proofs.Whole.{stage_stands}
use Rattle.plan_laws.proofs.LawfulRoutes.{routes_lawful}
use Rattle.plan_laws.proofs.Keeping.{routes_kept}
use Rattle.plan_laws.proofs.routes.routes_are_kept.Goals as goal

pub returns : goal.returns
returns c = λ l p o d layers ready drawn.
    let stands = stage_stands l p o d layers ready drawn in
    routes_kept l p o d drawn stands (child_stands l p o layers ready d drawn) (routes_lawful l p o d layers ready drawn stands)
