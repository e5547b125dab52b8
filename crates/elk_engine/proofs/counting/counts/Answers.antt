use Rattle.std.proofs.Common.{◌-◌, arith}
use Rattle.elk_engine.specs.DemoDocument.{triple_weight}
use Rattle.elk_engine.proofs.GrownLists.{summed}
use Rattle.elk_engine.proofs.counting.counts.Goals as goal

pub loop-number-preserved : goal.loop-number-preserved
loop-number-preserved c =
    let n = c.args.nodes in
    let at = c.loop-number.number in
    let is = c.triple_weight-weight.ensures in
    let small = c.loop-number.invariant.small in
    let above = c.loop-number.auto.number in
    record {
      sum = summed triple_weight (n - 1) c.loop-number.weight c.triple_weight-weight.result 1 at above c.loop-number.invariant.sum is;
      small = omega (arith, is, small, above);
    }
