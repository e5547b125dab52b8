use Rattle.std.proofs.Common.{ℕ, ◌<◌, ap, arith, below_more, length}
use Rattle.layout_check.specs.BoxBounds.{RouteHeld}
use Rattle.layout_check.specs.Levels.{at_level}
use Rattle.layout_check.proofs.box_bounds.add_routes.Goals as goal

pub loop-edge-preserved : goal.loop-edge-preserved
loop-edge-preserved c =
    let P : ℕ → Type 0 = at_level RouteHeld c.args.level.now c.add_route-held.new.bounds in
    let now = c.add_route-held.ensures in
    let before : (k : ℕ) → k < c.loop-edge.edge → P k = λ k l edge i m. now.kept _ _ (c.loop-edge.invariant.held k l edge i m) in
    record {
      kept = λ i r h. now.kept i r (c.loop-edge.invariant.kept i r h);
      held = below_more P _ before (now.held c.if-not-held.false);
    }

pub returns-clause-held : goal.returns-clause-held
returns-clause-held c =
    let end = ap length c.edges-edge-end.ensures.value in
    λ _ e edge.
    let inside : e < c.loop-edge.edge = let within = edge.edge_in in omega (arith, end, within) in
    c.loop-edge.invariant.held e inside edge
