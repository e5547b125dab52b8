use Rattle.std.proofs.Common.{◌≡◌, ◌<◌, ◌∙◌, ap, false, refl, rules, subst, sym, true}
use Rattle.level_model.specs.Conditions.{plain_level}
use Rattle.layer_units.specs.Marks.{is_marked}
use Rattle.level_layout.proofs.GraphLemmas.{edge_read}
use Rattle.level_layout.proofs.NetLemmas.{loop_read, network_more, network_same}
use Rattle.level_layout.proofs.networks.network_edges.Goals as goal
use Rattle.level_layout.proofs.networks.network_edges.Goals.{then-not-is_loop+in_ok-push, else-not-is_loop}

pub loop-e-preserved : goal.loop-e-preserved
loop-e-preserved c =
    let l = plain_level c.args.level.now in
    elim c.if-not-is_loop.branch [
      | then-not-is_loop+in_ok-push w ↦
          let off : c.is_loop.result ≡ false = search rules in
          let read = edge_read l c.as_slice-edge-items.result.now c.loop-e.e _ c.as_slice-edge-items.ensures.value c.loop-e-test.true in
          let no_loop = loop_read l c.loop-e.e _ c.is_loop.result false read.0 c.is_loop.ensures off in
          network_more l c.args.marks.now c.loop-e.e c.loop-e.edges.items c.if-not-is_loop.edges.items w.network_edge.result _ (is_marked c.args.marks.now c.loop-e.e) (subst (λ n. c.loop-e.e < n) (sym c.requires) read.1) read.0 refl no_loop w.network_edge.ensures
          c.loop-e.invariant (ap (λ z. z.items) w.edges-is ∙ w.in_ok-push.ensures.items)
      | else-not-is_loop w ↦
          let on : c.is_loop.result ≡ true = search rules in
          let read = edge_read l c.as_slice-edge-items.result.now c.loop-e.e _ c.as_slice-edge-items.ensures.value c.loop-e-test.true in
          network_same l c.args.marks.now c.loop-e.e c.if-not-is_loop.edges.items (loop_read l c.loop-e.e _ c.is_loop.result true read.0 c.is_loop.ensures on) (ap (λ z. z.items) w.edges-is ∙ c.loop-e.invariant)
    ]
