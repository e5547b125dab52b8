-- The route of each edge of a drawing is lawful.
use Rattle.std.proofs.Common.{◌≡◌, ⊎_elim, ℕ, ◌<◌, cond, true, false, List, [], length, refl, subst, ap, ◌∙◌}
use Rattle.std.proofs.lemmas.Bool.{cases_Bool}
use Rattle.drawing_types.specs.declared.shape.Point.{Point}
use Rattle.route_lines.specs.declared.Step.{Step}
use Rattle.route_lines.specs.Points.{trace_points}
use Rattle.route_lines.specs.Tidied.{IsTidied}
use Rattle.level_model.specs.Stage.{Stands}
use Rattle.level_model.specs.Law.{IsLawful}
use Rattle.level_model.specs.Level.{PlainLevel, PlainPlan, Orders, end_at, is_loop, holds, dock_of}
use Rattle.level_model.specs.Lanes.{has_one_dock}
use Rattle.level_model.specs.Traces.{loop_steps, oriented_steps, reversed_steps, steps_of}
use Rattle.level_model.specs.FromPlan.{LevelDrawing, IsDrawnFrom, IsRoute, anchor, trace_at}
use Rattle.level_model.specs.Drawing.{stage}
use Rattle.level_model.specs.Ready.{IsReady}
use Rattle.level_model.proofs.SameLines.{dock_eq-same}
use Rattle.plan_laws.specs.Lawful.{RoutesAreLawful}
use Rattle.plan_laws.proofs.Ends.{lawful_way}
use Rattle.plan_laws.proofs.RouteEnds.{plain_end}
use Rattle.plan_laws.proofs.Edges.{edge_way}
use Rattle.plan_laws.proofs.Loops.{loop_way}
use Rattle.plan_laws.proofs.LawPointLoops.{point_lawful}

-- the points of a route are those of its edge's steps, tidied
route_tidied : (l : PlainLevel) (p : PlainPlan) (o : Orders) (d : LevelDrawing) (e : ℕ) (r : IsRoute l p o d e)
    → IsTidied (trace_points d.gaps (anchor l p o d (end_at e true)) (steps_of l p o d.top e) (anchor l p o d (end_at e false))) r.points
route_tidied l p o d e r =
    subst (λ z. IsTidied (trace_points d.gaps (anchor l p o d (end_at e true)) (steps_of l p o d.top e) z) r.points) r.end
    (subst (λ xs. IsTidied (trace_points d.gaps (anchor l p o d (end_at e true)) xs (trace_at d e).end) r.points) r.steps
    (subst (λ a. IsTidied (trace_points d.gaps a (trace_at d e).steps (trace_at d e).end) r.points) r.start r.tidied))

lawful_loop : (l : PlainLevel) (p : PlainPlan) (o : Orders) (d : LevelDrawing) (layers : List ℕ) (ready : IsReady l p o layers) (drawn : IsDrawnFrom l p o d) (st : Stands (stage l p o d)) (e : ℕ) (h : e < length l.edges) (loop : is_loop l e ≡ true)
    → (points : List Point) → IsTidied (trace_points d.gaps (anchor l p o d (end_at e true)) (steps_of l p o d.top e) (anchor l p o d (end_at e false))) points → IsLawful (stage l p o d) e points
lawful_loop l p o d layers ready drawn st e h loop points t =
    let two_docks : List Step = loop_steps l p o d.top e (dock_of l p o (end_at e true)).side (dock_of l p o (end_at e false)).side in
    let steps : steps_of l p o d.top e ≡ cond (has_one_dock l p o e) [] two_docks =
    ap (λ b. cond b (cond (has_one_dock l p o e) [] two_docks) (cond (holds p.reversed e) (reversed_steps (oriented_steps l p o d.top e)) (oriented_steps l p o d.top e))) loop in
    ⊎_elim
    (λ (one : has_one_dock l p o e ≡ true).
    let none : steps_of l p o d.top e ≡ [] = steps ∙ ap (λ b. cond b [] two_docks) one in
    point_lawful (stage l p o d) e points st h (dock_eq-same (dock_of l p o (end_at e true)) (dock_of l p o (end_at e false)) one) (λ b side. plain_end l p o d st e true b h side)
    (subst (λ xs. IsTidied (trace_points d.gaps (anchor l p o d (end_at e true)) xs (anchor l p o d (end_at e false))) points) none t))
    (λ (two : has_one_dock l p o e ≡ false).
    let some : steps_of l p o d.top e ≡ two_docks = steps ∙ ap (λ b. cond b [] two_docks) two in
    lawful_way (stage l p o d) e two_docks points (loop_way l p o d layers ready drawn st e h loop two _ _ refl refl)
    (subst (λ xs. IsTidied (trace_points d.gaps (anchor l p o d (end_at e true)) xs (anchor l p o d (end_at e false))) points) some t))
    (cases_Bool (has_one_dock l p o e))

pub routes_lawful : RoutesAreLawful
routes_lawful l p o d layers ready drawn st e h =
    let route = drawn.routes e h in
    let t = route_tidied l p o d e route in (
      route.points,
      route.section,
      ⊎_elim
          (λ loop. lawful_loop l p o d layers ready drawn st e h loop route.points t)
          (λ plain. lawful_way (stage l p o d) e (steps_of l p o d.top e) route.points (edge_way l p o d layers ready drawn st e h plain) t)
          (cases_Bool (is_loop l e)),
    )
