use Rattle.std.proofs.Common.{◌≡◌, ◌+ℤ◌, pos, arith}
use Rattle.std.proofs.lemmas.Int.{ints}
use Rattle.separation.specs.Lines.{value_at}
use Rattle.unit_blocks.specs.Constraints.{block_at, offset_at}
use Rattle.elk_layers.proofs.FillLemmas.{push_more}
use Rattle.unit_blocks.proofs.tops.tops.Goals as goal

pub loop-u-preserved : goal.loop-u-preserved
loop-u-preserved c =
    let h = c.requires.in_range c.loop-u.u 0 c.loop-u-test.true in
    let low = c.requires.values_low _ h in
    let high = c.requires.values_high _ h in
    let small = c.requires.small c.loop-u.u in
    rw c.in_ok-push.ensures.items
    (push_more (λ u x. x ≡ value_at c.args.values.now (block_at c.args.blocks.now u) +ℤ offset_at c.args.offsets.now u) c.loop-u.top.items c.loop-u.u _ (pos 0)
    c.loop-u.invariant.0 c.loop-u.invariant.1 (omega (arith, ints, low, high, small.low, small.high)))
