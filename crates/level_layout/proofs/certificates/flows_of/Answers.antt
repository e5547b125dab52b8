use Rattle.std.proofs.Common.{◌≡◌, ◌+◌, ◌∙◌, ap, false, refl, rules, subst, sym, true}
use Rattle.level_model.specs.Conditions.{plain_level}
use Rattle.level_layout.specs.Flows.{AreFlows}
use Rattle.level_layout.proofs.FlowLemmas.{flow_there, flows_link, flows_loop}
use Rattle.level_layout.proofs.GraphLemmas.{edge_read}
use Rattle.level_layout.proofs.NetLemmas.{loop_read}
use Rattle.level_layout.proofs.certificates.flows_of.Goals as goal
use Rattle.level_layout.proofs.certificates.flows_of.Goals.{then-is_loop+in_ok-push, else-is_loop+in_ok-push-2}

pub bounds-flow-next : goal.bounds-flow-next
bounds-flow-next c =
    let l = plain_level c.args.level.now in
    let off : c.is_loop.result ≡ false = search rules in
    let read = edge_read l c.as_slice-edge-items.result.now c.loop-edge.edge-index _ c.as_slice-edge-items.ensures.value c.loop-edge-test.true in
    let no_loop = loop_read l c.loop-edge.edge-index _ c.is_loop.result false read.0 c.is_loop.ensures off in
    flow_there l c.args.flow.now c.loop-edge.edge-index c.loop-edge.next c.loop-edge.flows.items c.loop-edge.invariant no_loop read.1 c.requires

pub loop-edge-preserved : goal.loop-edge-preserved
loop-edge-preserved c =
    let l = plain_level c.args.level.now in
    elim c.if-is_loop.branch [
      | then-is_loop+in_ok-push w ↦
          let on : c.is_loop.result ≡ true = search rules in
          let read = edge_read l c.as_slice-edge-items.result.now c.loop-edge.edge-index _ c.as_slice-edge-items.ensures.value c.loop-edge-test.true in
          let loop = loop_read l c.loop-edge.edge-index _ c.is_loop.result true read.0 c.is_loop.ensures on in
          subst (λ n. AreFlows l c.args.flow.now (c.loop-edge.edge-index + 1) n c.if-is_loop.flows.items) (sym w.next-is)
          (flows_loop l c.args.flow.now c.loop-edge.edge-index c.loop-edge.next c.loop-edge.flows.items c.if-is_loop.flows.items c.loop-edge.invariant loop (ap (λ z. z.items) w.flows-is ∙ w.in_ok-push.ensures.items))
      | else-is_loop+in_ok-push-2 w ↦
          let off : c.is_loop.result ≡ false = search rules in
          let read = edge_read l c.as_slice-edge-items.result.now c.loop-edge.edge-index _ c.as_slice-edge-items.ensures.value c.loop-edge-test.true in
          let no_loop = loop_read l c.loop-edge.edge-index _ c.is_loop.result false read.0 c.is_loop.ensures off in
          let there = flow_there l c.args.flow.now c.loop-edge.edge-index c.loop-edge.next c.loop-edge.flows.items c.loop-edge.invariant no_loop read.1 c.requires in
          subst (λ n. AreFlows l c.args.flow.now (c.loop-edge.edge-index + 1) n c.if-is_loop.flows.items) (sym w.next-is)
          (flows_link l c.args.flow.now c.loop-edge.edge-index c.loop-edge.next _ c.loop-edge.flows.items c.if-is_loop.flows.items c.loop-edge.invariant no_loop there refl (ap (λ z. z.items) w.flows-is ∙ w.in_ok-push-2.ensures.items))
    ]
