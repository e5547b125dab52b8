use Rattle.std.proofs.Common.{◌∷◌, [], map, drop, sym, subst, w64, to_z}
use Rattle.std.specs.List.{All}
use Rattle.drawing_types.specs.Ranges.{IsNear}
use Rattle.route_lines.specs.Points.{plain_gap, points_on, step_points}
use Rattle.route_lines.proofs.Gathering.{All_left, All_right}
use Rattle.route_lines.proofs.joining.points_of.Goals as goal

pub push_step-requires-clause-points : goal.push_step-requires-clause-points
push_step-requires-clause-points c =
    let gs = map plain_gap c.args.gaps.now in
    let start = c.args.trace.now.start in
    let whole : All IsNear (start ∷ step_points gs start c.args.trace.now.steps.items c.args.trace.now.end) =
    All_left IsNear (start ∷ step_points gs start c.args.trace.now.steps.items c.args.trace.now.end) (c.args.trace.now.end ∷ []) c.requires.points in
    let all : All IsNear (points_on gs c.args.trace.now.end (to_z w64 c.steps.height-bits) (drop c.steps.number c.as_slice-steps.result.now)) =
    All_right IsNear _ _ (subst (λ z. All IsNear z) (sym c.steps.invariant) (subst (λ z. All IsNear (start ∷ step_points gs start z c.args.trace.now.end)) (sym c.as_slice-steps.ensures.value) whole)) in
    all
