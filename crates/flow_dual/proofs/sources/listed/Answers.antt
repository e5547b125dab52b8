use Rattle.std.proofs.Common.{length, refl, arith}
use Rattle.std.proofs.lemmas.Int.{ints}
use Rattle.flow_dual.proofs.Waiting.{one_listed, one_passed}
use Rattle.flow_dual.proofs.sources.listed.Goals.{then-excess-v-gt0+in_ok-push, else-excess-v-gt0}
use Rattle.flow_dual.proofs.sources.listed.Goals as goal

pub loop-v-preserved : goal.loop-v-preserved
loop-v-preserved c =
    let nodes = length c.args.layer.now in
    let excess = c.args.excess.now in
    elim c.if-excess-v-gt0.branch [
      | then-excess-v-gt0+in_ok-push w ↦
          rw w.sources-is (one_listed nodes excess c.loop-v.v c.loop-v.sources.items w.push.new.self.items _ c.loop-v-test.true refl w.in_ok-push.ensures.items c.loop-v.invariant)
      | else-excess-v-gt0 w ↦
          let none = w.if-excess-v-gt0 in
          rw w.sources-is (one_passed nodes excess c.loop-v.v c.loop-v.sources.items (omega (arith, ints, none)) c.loop-v.invariant)
    ]
