use Rattle.std.proofs.Common.{rules, below_more, IsTrue}
use Rattle.layout_check.specs.FirstApart.{PartHolds}
use Rattle.layout_check.proofs.parts.first_part.Goals as goal

pub loop-child-preserved : goal.loop-child-preserved
loop-child-preserved c =
    let t : IsTrue c.part_holds-holds.result = search rules in
    below_more (PartHolds c.args.level.now.scene.now.doc.now c.args.level.now.node c.args.level.now.options.now c.args.level.now.certificate.now) _ c.loop-child.invariant (c.part_holds-holds.ensures.0 t)
