use Rattle.std.proofs.Common.{rules, below_more, IsTrue, ap, length, arith}
use Rattle.layout_check.specs.FirstPorts.{EndsHold}
use Rattle.layout_check.proofs.ends.first_edge.Goals as goal

pub loop-edge-preserved : goal.loop-edge-preserved
loop-edge-preserved c =
    let t : IsTrue c.ends_hold.result = search rules in
    below_more (EndsHold c.args.scene.now.doc.now c.args.scene.now.placed.now c.args.node) _ c.loop-edge.invariant (c.ends_hold.ensures.0 t)

pub returns : goal.returns
returns c =
    λ k edge m s at.
    let len = ap length c.edges-edge-end.ensures.value in
    let inside = edge.edge_in in
    let ended = c.loop-edge-test.false in
    c.loop-edge.invariant k (omega (arith, len, inside, ended)) edge m s at
