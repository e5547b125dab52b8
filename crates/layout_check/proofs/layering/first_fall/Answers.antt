use Rattle.std.proofs.Common.{rules, below_more, IsTrue}
use Rattle.layout_check.specs.FirstLevels.{EdgeRises}
use Rattle.layout_check.proofs.layering.first_fall.Goals as goal

pub loop-edge-preserved : goal.loop-edge-preserved
loop-edge-preserved c =
    let t : IsTrue c.edge_rises.result = search rules in
    below_more (EdgeRises c.args.scene.now.doc.now c.args.scene.now.placed.now c.args.node c.args.certificate.now) _ c.loop-edge.invariant (c.edge_rises.ensures.0 t)
