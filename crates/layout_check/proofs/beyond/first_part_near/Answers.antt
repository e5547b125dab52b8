use Rattle.std.proofs.Common.{rules, below_more, IsTrue}
use Rattle.layout_check.specs.FirstApart.{PartsHold}
use Rattle.layout_check.specs.Levels.{at_level}
use Rattle.layout_check.proofs.beyond.first_part_near.Goals as goal

pub loop-other-preserved : goal.loop-other-preserved
loop-other-preserved c =
    let t : IsTrue c.parts_hold-holds.result = search rules in
    below_more (at_level PartsHold c.args.level.now c.args.one) _ c.loop-other.invariant (c.parts_hold-holds.ensures.0 t)
