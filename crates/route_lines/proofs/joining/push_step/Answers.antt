use Rattle.std.proofs.Common.{◌≡◌, ◌++◌, ◌+◌, map, drop, sym, ap, ◌∙◌, subst, FitsSigned, w64, to_z, of_z, rules}
use Rattle.std.proofs.lemmas.Int.{to_z-of_z}
use Rattle.std.proofs.lemmas.List.{append_assoc}
use Rattle.std.specs.List.{All}
use Rattle.drawing_types.specs.Ranges.{IsNear}
use Rattle.route_lines.specs.Waypoints.{points_in}
use Rattle.route_lines.specs.Points.{plain_gap, net_leg, points_on, height_next}
use Rattle.route_lines.proofs.Gathering.{from_leg, All_left}
use Rattle.route_lines.proofs.joining.push_step.Goals as goal

pub push_net-requires-clause-points : goal.push_net-requires-clause-points
push_net-requires-clause-points c =
    let after_fits : FitsSigned w64 c.height_from-after.result = search rules in
    let next = height_next c.args.end (drop (c.args.number + 1) c.args.steps.now) in
    let gs = map plain_gap c.args.gaps.now in
    let all : All IsNear (net_leg gs c.in-Leg.gap c.in-Leg.net c.in-Leg.from_a c.args.before next) =
    All_left IsNear _ _ (subst (λ z. All IsNear z) (from_leg gs c.args.end c.args.before c.args.steps.now c.args.number c.in-Leg.gap c.in-Leg.net c.in-Leg.from_a _ c.requires.number c.in-Leg.is) c.requires.points) in
    rw (to_z-of_z w64 c.args.before c.ranges.before, to_z-of_z w64 c.height_from-after.result after_fits, c.height_from-after.ensures) all

pub returns-in_ok-push_net-in-Leg : goal.returns-in_ok-push_net-in-Leg
returns-in_ok-push_net-in-Leg c =
    let after_fits : FitsSigned w64 c.height_from-after.result = search rules in
    let before_is = to_z-of_z w64 c.args.before c.ranges.before in
    let after_is = to_z-of_z w64 c.height_from-after.result after_fits in
    let gs = map plain_gap c.args.gaps.now in
    let next = height_next c.args.end (drop (c.args.number + 1) c.args.steps.now) in
    let old = points_in c.args.points.now.items in
    let rest = drop (c.args.number + 1) c.args.steps.now in
    let e : points_in c.push_net.new.points.items ≡ old ++ net_leg gs c.in-Leg.gap c.in-Leg.net c.in-Leg.from_a (to_z w64 (of_z w64 c.args.before)) (to_z w64 (of_z w64 c.height_from-after.result)) = search rules in
    let e' : points_in c.push_net.new.points.items ≡ old ++ net_leg gs c.in-Leg.gap c.in-Leg.net c.in-Leg.from_a c.args.before next =
    e ∙ ap (λ z. old ++ net_leg gs c.in-Leg.gap c.in-Leg.net c.in-Leg.from_a z (to_z w64 (of_z w64 c.height_from-after.result))) before_is
    ∙ ap (λ z. old ++ net_leg gs c.in-Leg.gap c.in-Leg.net c.in-Leg.from_a c.args.before z) (after_is ∙ c.height_from-after.ensures) in
    ap (λ z. points_in c.push_net.new.points.items ++ points_on gs c.args.end z rest) (after_is ∙ c.height_from-after.ensures)
    ∙ ap (λ z. z ++ points_on gs c.args.end next rest) e'
    ∙ append_assoc old (net_leg gs c.in-Leg.gap c.in-Leg.net c.in-Leg.from_a c.args.before next) (points_on gs c.args.end next rest)
    ∙ ap (λ z. old ++ z) (sym (from_leg gs c.args.end c.args.before c.args.steps.now c.args.number c.in-Leg.gap c.in-Leg.net c.in-Leg.from_a _ c.requires.number c.in-Leg.is))
