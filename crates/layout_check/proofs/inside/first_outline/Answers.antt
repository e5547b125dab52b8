use Rattle.std.proofs.Common.{rules, below_more, IsTrue}
use Rattle.layout_check.specs.FirstInside.{OutlineHolds}
use Rattle.layout_check.proofs.inside.first_outline.Goals as goal

pub loop-child-preserved : goal.loop-child-preserved
loop-child-preserved c =
    let t : IsTrue c.outline_holds.result = search rules in
    below_more (OutlineHolds c.args.scene.now.doc.now c.args.scene.now.placed.now c.args.node c.args.options.now) _ c.loop-child.invariant (c.outline_holds.ensures.0 t)
