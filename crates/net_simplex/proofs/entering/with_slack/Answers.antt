use Rattle.std.proofs.Common.{◌∙◌, rules, FitsSigned, w64}
use Rattle.std.specs.Int.{w128}
use Rattle.std.proofs.lemmas.Int.{to_z-of_z}
use Rattle.network_laws.specs.Network.{edge_at}
use Rattle.network_laws.specs.Layering.{layer_of}
use Rattle.net_simplex.specs.Pivots.{is_in, shifted}
use Rattle.net_simplex.proofs.Looking.{slack_value, moved_layer}
use Rattle.net_simplex.proofs.entering.with_slack.Goals as goal

pub slack_between-slack-requires : goal.slack_between-slack-requires
slack_between-slack-requires c =
    let low = c.layer_in-low.result in
    let high = c.layer_in-high.result in
    let fl : FitsSigned w128 low = search rules in
    let fg : FitsSigned w128 high = search rules in
    rw (to_z-of_z w128 low fl, to_z-of_z w128 high fg)
    (record {
      low_from = c.layer_in-low.ensures.from;
      low_to = c.layer_in-low.ensures.to;
      high_from = c.layer_in-high.ensures.from;
      high_to = c.layer_in-high.ensures.to;
    })

pub returns-clause-slack : goal.returns-clause-slack
returns-clause-slack c =
    let layers = c.args.layers.now in
    let reached = c.args.reached.now in
    let by = c.args.by in
    let e = edge_at c.args.edges.now c.args.k in
    let low = c.layer_in-low.result in
    let high = c.layer_in-high.result in
    let z = c.slack_between-slack.result in
    let fb : FitsSigned w64 by = search rules in
    let ft : FitsSigned w64 (layer_of layers e.tail) = search rules in
    let fh : FitsSigned w64 (layer_of layers e.head) = search rules in
    let fl : FitsSigned w128 low = search rules in
    let fg : FitsSigned w128 high = search rules in
    let fz : FitsSigned w128 z = search rules in
    let b = c.requires.ends c.args.k c.requires.there in
    let l = rw (to_z-of_z w64 (layer_of layers e.tail) ft, to_z-of_z w64 by fb) at c.layer_in-low.ensures in
    let h = rw (to_z-of_z w64 (layer_of layers e.head) fh, to_z-of_z w64 by fb) at c.layer_in-high.ensures in
    to_z-of_z w128 z fz ∙ slack_value (shifted (is_in reached) by layers) e low high z (c.requires.layering c.args.k c.requires.there) (moved_layer (is_in reached) by layers e.tail low b.0 l.held l.out) (moved_layer (is_in reached) by layers e.head high b.1 h.held h.out) (rw (to_z-of_z w128 low fl, to_z-of_z w128 high fg) at c.slack_between-slack.ensures)
