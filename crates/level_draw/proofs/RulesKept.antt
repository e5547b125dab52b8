-- What is drawn from a plan keeps the rules for routes.
use Rattle.std.proofs.Common.{ℕ, List}
use Rattle.level_model.specs.Level.{PlainLevel, PlainPlan, Orders}
use Rattle.level_model.specs.FromPlan.{LevelDrawing, IsDrawnFrom}
use Rattle.level_model.specs.Ready.{IsReady}
use Rattle.level_model.proofs.EndLemmas.{child_stands}
use Rattle.plan_laws.proofs.Whole.{stage_stands}
use Rattle.plan_laws.proofs.LawfulRoutes.{routes_lawful}
use Rattle.plan_laws.specs.Routes.{RoutesKept}
use Rattle.plan_laws.proofs.Keeping.{routes_kept}

pub rules_kept : (l : PlainLevel) (p : PlainPlan) (o : Orders) (d : LevelDrawing) (layers : List ℕ) → IsReady l p o layers → IsDrawnFrom l p o d → RoutesKept l p o d
rules_kept l p o d layers ready drawn =
    let stands = stage_stands l p o d layers ready drawn in
    routes_kept l p o d drawn stands (child_stands l p o layers ready d drawn) (routes_lawful l p o d layers ready drawn stands)
