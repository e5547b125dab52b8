use Rattle.std.proofs.Common.{◌≡◌, ◌<◌, length, ap, subst, sym, ◌∙◌}
use Rattle.network_laws.specs.declared.network.NetEdge.{NetEdge}
use Rattle.level_model.specs.Conditions.{plain_level}
use Rattle.level_model.specs.Level.{edge_at}
use Rattle.level_layout.specs.Certificate.{oriented}
use Rattle.layer_units.specs.Marks.{is_marked}
use Rattle.level_layout.proofs.LongEdgeLemmas.{head_in, links_more, no_links, nodes_stay, tail_in}
use Rattle.level_layout.proofs.GraphLemmas.{edge_read}
use Rattle.level_layout.proofs.chaining.add_links.Goals as goal

pub loop-e-init : goal.loop-e-init
loop-e-init c = rw c.in_ok-keys.ensures.items (c.requires.nodes, no_links (plain_level c.args.level.now) c.args.is_reversed.now c.args.nodes.now c.args.arena.now c.requires.no_edges)

pub add_link-requires-clause-tail : goal.add_link-requires-clause-tail
add_link-requires-clause-tail c =
    let l = plain_level c.args.level.now in
    let read = edge_read l c.as_slice-edge-items.result.now c.loop-e.e _ c.as_slice-edge-items.ensures.value c.loop-e-test.true in
    let is = c.network_edge-ends.ensures ∙ ap (oriented (is_marked c.args.is_reversed.now c.loop-e.e)) read.0 in
    subst (λ n. c.network_edge-ends.result.tail < n) (sym c.loop-e.invariant.0.as_many)
    (subst (λ (x : NetEdge). x.tail < length l.children) (sym is) (tail_in l c.args.is_reversed.now c.loop-e.e c.requires.level read.1))

pub add_link-requires-clause-head : goal.add_link-requires-clause-head
add_link-requires-clause-head c =
    let l = plain_level c.args.level.now in
    let read = edge_read l c.as_slice-edge-items.result.now c.loop-e.e _ c.as_slice-edge-items.ensures.value c.loop-e-test.true in
    let is = c.network_edge-ends.ensures ∙ ap (oriented (is_marked c.args.is_reversed.now c.loop-e.e)) read.0 in
    subst (λ n. c.network_edge-ends.result.head < n) (sym c.loop-e.invariant.0.as_many)
    (subst (λ (x : NetEdge). x.head < length l.children) (sym is) (head_in l c.args.is_reversed.now c.loop-e.e c.requires.level read.1))

pub add_link-requires-clause-live : goal.add_link-requires-clause-live
add_link-requires-clause-live c = λ v h. c.loop-e.invariant.0.live v (subst (λ n. v < n) c.loop-e.invariant.0.as_many h)

pub loop-e-preserved : goal.loop-e-preserved
loop-e-preserved c =
    let l = plain_level c.args.level.now in
    let read = edge_read l c.as_slice-edge-items.result.now c.loop-e.e _ c.as_slice-edge-items.ensures.value c.loop-e-test.true in
    let is : c.network_edge-ends.result ≡ oriented (is_marked c.args.is_reversed.now c.loop-e.e) (edge_at l c.loop-e.e) =
    c.network_edge-ends.ensures ∙ ap (oriented (is_marked c.args.is_reversed.now c.loop-e.e)) read.0
    in (
      nodes_stay c.loop-e.arena c.add_link.new.arena (length l.children) c.args.nodes.now c.network_edge-ends.result c.in_ok-add_link.field-0 c.loop-e.invariant.0 c.in_ok-add_link.ensures,
      links_more l c.args.is_reversed.now c.args.nodes.now c.loop-e.arena c.add_link.new.arena c.loop-e.e c.loop-e.keys.items c.push.new.self.items c.network_edge-ends.result c.in_ok-add_link.field-0
          c.loop-e.invariant.1 is c.in_ok-add_link.ensures c.in_ok-push.ensures.items,
    )
