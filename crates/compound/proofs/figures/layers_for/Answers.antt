use Rattle.compound.proofs.FlatLemmas.{layers_more}
use Rattle.compound.proofs.figures.layers_for.Goals as goal

pub loop-place-preserved : goal.loop-place-preserved
loop-place-preserved c =
    layers_more c.args.boxes.now c.loop-place._place-index c.loop-place.layers.items c.push.new.self.items c.loop-place-test.true c.loop-place.invariant c.in_ok-push.ensures.items
