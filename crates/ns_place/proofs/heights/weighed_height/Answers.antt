use Rattle.std.proofs.Common.{arith, drop, get_or, ◌*◌, ◌∙◌, ap}
use Rattle.ns_place.proofs.WritingLemmas.{heights_step, heights_done}
use Rattle.ns_place.proofs.heights.weighed_height.Goals as goal

pub loop-k-preserved : goal.loop-k-preserved
loop-k-preserved c =
    let more = heights_step c.args.top.now c.args.links.now c.args.weights.now c.loop-k.k (omega arith) (omega arith) in
    let a = c.loop-k.invariant.0 in
    let b = c.loop-k.invariant.1 in
    let is = c.times-height.ensures.value ∙ ap (λ n. get_or c.args.weights.now c.loop-k.k 0 * n) c.height_of.ensures in
    let small = c.times-height.ensures.small in
    (omega (arith, more, a, is), omega (arith, b, small))

pub returns : goal.returns
returns c =
    let done = heights_done c.args.top.now c.args.links.now (drop c.loop-k.k c.args.weights.now) c.loop-k.k (omega arith) in
    let a = c.loop-k.invariant.0 in
    omega (arith, done, a)
