use Rattle.std.proofs.Common.{◌≡◌, ◌∷◌, ◌++◌, [], ap, ◌∙◌, rules}
use Rattle.std.proofs.lemmas.List.{map-append}
use Rattle.route_lines.specs.Waypoints.{points_in, waypoint_at}
use Rattle.route_lines.proofs.Gathering.{all_behind}
use Rattle.route_lines.proofs.joining.tidied.Goals as goal

pub points-init : goal.points-init
points-init c =
    let e : c.args.points.items ≡ c.pop.new.self.items ++ c.unwrap-end.result ∷ [] = search rules in
    all_behind _ _ _ (waypoint_at c.unwrap-end.result) (ap points_in e ∙ map-append waypoint_at c.pop.new.self.items (c.unwrap-end.result ∷ [])) (c.new-path.ensures ∙ ap (λ z. z ∷ []) c.point_of.ensures)
