use Rattle.std.proofs.Common.{rules, below_more, IsTrue}
use Rattle.layout_check.specs.FirstRoutes.{SharingHolds}
use Rattle.layout_check.proofs.sharing.first_partner.Goals as goal

pub loop-other-preserved : goal.loop-other-preserved
loop-other-preserved c =
    let t : IsTrue c.sharing_holds.result = search rules in
    below_more (SharingHolds c.args.scene.now.doc.now c.args.scene.now.placed.now c.args.node c.args.edge) _ c.loop-other.invariant (c.sharing_holds.ensures.0 t)
