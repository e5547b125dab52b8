use Rattle.std.proofs.Common.{below_more, ℕ}
use Rattle.layout_check.specs.FirstRoutes.{ClearHolds}
use Rattle.layout_check.proofs.clear.clear_fault_by_pairs.Goals as goal

pub loop-edge-preserved : goal.loop-edge-preserved
loop-edge-preserved c =
    let here : (a : ℕ) → ClearHolds c.args.scene.now.doc.now c.args.scene.now.placed.now c.args.node c.loop-edge.edge a = c.in_default.ensures in
    below_more (λ k. (a : ℕ) → ClearHolds c.args.scene.now.doc.now c.args.scene.now.placed.now c.args.node k a) _ c.loop-edge.invariant here
