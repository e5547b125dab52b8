use Rattle.std.proofs.Common.{rules, below_more}
use Rattle.std.proofs.lemmas.Bool.{both_ways}
use Rattle.layout_check.specs.FirstApart.{RouteClear}
use Rattle.layout_check.specs.Levels.{at_level}
use Rattle.layout_check.proofs.beyond.routes_clear.Goals as goal

pub loop-edge-preserved : goal.loop-edge-preserved
loop-edge-preserved c =
    below_more (at_level RouteClear c.args.level.now c.args.across c.args.i c.args.j) _ c.loop-edge.invariant (c.route_clear.ensures.0 c.if-not-route_clear.false)

pub returns-then-not-route_clear : goal.returns-then-not-route_clear
returns-then-not-route_clear c =
    (λ h. absurd (search rules), λ h. absurd (both_ways c.route_clear.result c.if-not-route_clear.true (c.route_clear.ensures.1 (h c.loop-edge.edge))))
