use Rattle.std.proofs.Common.{◌≡◌, ◌∙◌, arith, to_z-of_z}
use Rattle.port_order.proofs.SpreadLemmas.{spread_rises}
use Rattle.port_order.proofs.spreading.spread.Goals as goal

pub returns : goal.returns
returns c =
    let all : c.loop-i.i ≡ c.args.k = omega arith in
    record {
      count = c.loop-i.invariant.count ∙ all;
      each = λ i h. rw (to_z-of_z c.ranges.len) at c.loop-i.invariant.each i (omega (arith, all));
      rising = λ long i j h k. rw (c.loop-i.invariant.each i (omega (arith, all)), c.loop-i.invariant.each j (omega (arith, all)), to_z-of_z c.ranges.len) (spread_rises c.args.len c.args.k i j long h);
    }
