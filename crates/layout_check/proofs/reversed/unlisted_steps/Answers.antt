use Rattle.std.proofs.Common.{◌<◌, ap, arith, length}
use Rattle.std.proofs.lemmas.Bool.{both_ways}
use Rattle.elk_doc.specs.Level.{source_node, target_node}
use Rattle.layout_check.specs.declared.paths.Step.{Step}
use Rattle.layout_check.proofs.ListedLaws.{steps_more, steps_same}
use Rattle.layout_check.proofs.reversed.unlisted_steps.Goals as goal
use Rattle.layout_check.proofs.reversed.unlisted_steps.Goals.{then-is_unlisted+in_ok-push, else-is_unlisted}

pub loop-edge-preserved : goal.loop-edge-preserved
loop-edge-preserved c =
    let d = c.args.doc.now in
    let e = c.loop-edge.edge in
    let from_is = ap (λ (s : Step). s.from) c.step_of-step.ensures.value in
    let to_is = ap (λ (s : Step). s.to) c.step_of-step.ensures.value in
    let from_in = c.step_of-step.ensures.from_in in
    let to_in = c.step_of-step.ensures.to_in in
    let from : source_node d e < length d.nodes = omega (arith, from_is, from_in) in
    let to : target_node d e < length d.nodes = omega (arith, to_is, to_in) in
    elim c.if-is_unlisted.branch [
      | then-is_unlisted+in_ok-push w ↦
          let u = c.is_unlisted.ensures.0 w.if-is_unlisted.true in
          rw (w.steps-is, w.in_ok-push.ensures.items, c.step_of-step.ensures.value)
          (steps_more d c.args.node c.args.certificate.now e c.loop-edge.steps.items c.loop-edge.invariant u from to)
      | else-is_unlisted w ↦
          rw w.steps-is
          (steps_same d c.args.node c.args.certificate.now e c.loop-edge.steps.items c.loop-edge.invariant
          (λ u. both_ways c.is_unlisted.result w.if-is_unlisted.false (c.is_unlisted.ensures.1 u)))
    ]
