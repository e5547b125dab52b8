use Rattle.std.proofs.Common.{◌≡◌, refl}
use Rattle.elk_layers.proofs.FillLemmas.{push_more}
use Rattle.unit_blocks.proofs.placing.counting.Goals as goal

pub loop-number-preserved : goal.loop-number-preserved
loop-number-preserved c =
    rw c.in_ok-push.ensures.items
    (push_more (λ u x. x ≡ u) c.loop-number.numbers.items c.loop-number.number _ 0 c.loop-number.invariant.0 c.loop-number.invariant.1 refl)
