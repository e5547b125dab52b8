use Rattle.std.proofs.Common.{◌<◌, arith, rules}
use Rattle.elk_doc.specs.Level.{IsEdge}
use Rattle.layout_check.proofs.sharing.sharing_holds.Goals as goal

pub returns : goal.returns
returns c =
    let other_of : IsEdge c.args.scene.now.doc.now c.args.node c.args.other = record { edge_in = c.requires.other_in; edge = search rules } in
    let later : c.args.edge < c.args.other = omega arith in
    (λ t _ _ _. c.is_sharing.ensures.0 t, λ h. c.is_sharing.ensures.1 (h c.requires.edge_of other_of later))
