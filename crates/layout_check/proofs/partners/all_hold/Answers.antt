use Rattle.std.proofs.Common.{◌<◌, ℕ, ap, arith, below_more, length}
use Rattle.layout_check.specs.FirstRoutes.{SharingHolds}
use Rattle.layout_check.proofs.partners.all_hold.Goals as goal

pub loop-edge-preserved : goal.loop-edge-preserved
loop-edge-preserved c =
    let here : (f : ℕ) → SharingHolds c.args.scene.now.doc.now c.args.scene.now.placed.now c.args.node c.loop-edge.edge f = c.edge_holds-holds.ensures c.if-not-holds.false in
    below_more (λ k. (f : ℕ) → SharingHolds c.args.scene.now.doc.now c.args.scene.now.placed.now c.args.node k f) _ c.loop-edge.invariant here

pub returns : goal.returns
returns c =
    let end = ap length c.edges-edge-end.ensures.value in
    λ _ e f of other_of later.
    let inside : e < c.loop-edge.edge = let within = of.edge_in in omega (arith, end, within) in
    c.loop-edge.invariant e inside f of other_of later
