use Rattle.std.proofs.Common.{sym, ap, ◌∙◌, ◌+◌, ◌<◌, ◌++◌, length, rules}
use Rattle.std.proofs.lemmas.List.{append-nil}
use Rattle.route_lines.specs.Waypoints.{points_in}
use Rattle.route_lines.proofs.Gathering.{last_later}
use Rattle.route_lines.proofs.joining.push_last.Goals as goal

pub returns-then-number-steps : goal.returns-then-number-steps
returns-then-number-steps c =
    let more : c.args.number + 1 < length c.args.steps.now = search rules in
    sym
    (ap (λ z. points_in c.args.points.now.items ++ z) (last_later c.args.end c.args.height c.args.steps.now (c.args.number + 1) more)
    ∙ append-nil (points_in c.args.points.now.items))
