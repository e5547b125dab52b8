use Rattle.std.proofs.Common.{rules, below_more}
use Rattle.std.proofs.lemmas.Bool.{both_ways}
use Rattle.layout_check.specs.FirstApart.{RouteBeyond}
use Rattle.layout_check.specs.Levels.{at_level}
use Rattle.layout_check.proofs.beyond.routes_beyond.Goals as goal

pub loop-edge-preserved : goal.loop-edge-preserved
loop-edge-preserved c =
    below_more (at_level RouteBeyond c.args.level.now c.args.across c.args.r c.args.j) _ c.loop-edge.invariant (c.route_beyond.ensures.0 c.if-not-route_beyond.false)

pub returns-then-not-route_beyond : goal.returns-then-not-route_beyond
returns-then-not-route_beyond c =
    (λ h. absurd (search rules), λ h. absurd (both_ways c.route_beyond.result c.if-not-route_beyond.true (c.route_beyond.ensures.1 (h c.loop-edge.edge))))
