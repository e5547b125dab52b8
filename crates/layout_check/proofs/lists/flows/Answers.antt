use Rattle.std.proofs.Common.{◌≡◌, sym, ap, ◌∙◌, arith, slice_index, ℕ, List}
use Rattle.elk_doc.specs.Drawing.{flow_in}
use Rattle.elk_doc.specs.Level.{is_edge_of}
use Rattle.elk_doc.proofs.NumberLaws.{count_below-zero, count_below-more, count_below-same}
use Rattle.layout_check.proofs.ListLaws.{Lists-none, Lists-push}
use Rattle.layout_check.proofs.lists.flows.Goals as goal
use Rattle.layout_check.proofs.lists.flows.Goals.{then-is_edge_of, else-is_edge_of}

pub loop-edge-init : goal.loop-edge-init
loop-edge-init c = record { listed = Lists-none _ _ c.new-flows.ensures.items; counted = sym (count_below-zero _); few = omega arith }

pub loop-edge-preserved : goal.loop-edge-preserved
loop-edge-preserved c =
    let passes = is_edge_of c.args.doc.now c.args.node in
    let value : c.flow_at.result ≡ flow_in c.args.doc.now c.args.node c.args.certificate.now c.loop-edge.edge =
    c.flow_at.ensures ∙ ap (λ (xs : List ℕ). slice_index xs c.loop-edge.place) c.as_slice.ensures.value ∙ ap (slice_index c.args.certificate.now.flow) c.loop-edge.invariant.counted
    in
    let listed = Lists-push (flow_in c.args.doc.now c.args.node c.args.certificate.now) c.loop-edge.edge c.loop-edge.flows.items _ _ c.loop-edge.invariant.listed value c.in_ok-push.ensures.items in
    elim c.if-is_edge_of.branch [
      | then-is_edge_of w ↦
          let more = count_below-more passes c.loop-edge.edge (sym c.is_edge_of.ensures ∙ w.if-is_edge_of.true) in
          record { listed = listed; counted = omega arith; few = omega arith }
      | else-is_edge_of w ↦
          let same = count_below-same passes c.loop-edge.edge (sym c.is_edge_of.ensures ∙ w.if-is_edge_of.false) in
          record { listed = listed; counted = omega arith; few = omega arith }
    ]
