use Rattle.std.proofs.Common.{rules, below_more, IsTrue}
use Rattle.layout_check.specs.FirstApart.{LayersHold}
use Rattle.layout_check.specs.Levels.{at_level}
use Rattle.layout_check.proofs.pairs.first_near.Goals as goal

pub loop-other-preserved : goal.loop-other-preserved
loop-other-preserved c =
    let t : IsTrue c.layers_hold-holds.result = search rules in
    below_more (at_level LayersHold c.args.level.now c.args.one) _ c.loop-other.invariant (c.layers_hold-holds.ensures.0 t)
