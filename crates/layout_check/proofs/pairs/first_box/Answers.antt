use Rattle.std.proofs.Common.{rules, below_more, IsTrue}
use Rattle.layout_check.specs.FirstApart.{BoxesHold}
use Rattle.layout_check.proofs.pairs.first_box.Goals as goal

pub loop-other-preserved : goal.loop-other-preserved
loop-other-preserved c =
    let t : IsTrue c.boxes_hold.result = search rules in
    below_more (BoxesHold c.args.level.now.scene.now.doc.now c.args.level.now.scene.now.placed.now c.args.level.now.node c.args.level.now.options.now c.args.one) _ c.loop-other.invariant (c.boxes_hold.ensures.0 t)
