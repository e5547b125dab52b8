use Rattle.std.proofs.Common.{length, subst}
use Rattle.graph_arena.specs.Changes.{AddsEdge}
use Rattle.level_model.specs.Conditions.{plain_level}
use Rattle.level_model.specs.declared.level.LevelEdge.{LevelEdge}
use Rattle.level_layout.specs.Marks.{node_of}
use Rattle.level_layout.proofs.GraphLemmas.{edge_read, edges_more, nodes_kept}
use Rattle.level_layout.proofs.orienting.add_edges.Goals as goal

pub loop-edge-preserved : goal.loop-edge-preserved
loop-edge-preserved c =
    let l = plain_level c.args.level.now in
    let read = edge_read l c.as_slice-edge-items.result.now c.loop-edge.edge-index _ c.as_slice-edge-items.ensures.value c.loop-edge-test.true in
    let adds = subst (λ (x : LevelEdge). AddsEdge c.loop-edge.arena c.add_edge.new.self c.in_ok-add_edge.field-0.at (node_of c.args.nodes.now x.source.child) (node_of c.args.nodes.now x.target.child)) read.0 c.in_ok-add_edge.ensures.added in (
      nodes_kept c.loop-edge.arena c.add_edge.new.self (length l.children) c.args.nodes.now c.in_ok-add_edge.field-0.at _ _ c.loop-edge.invariant.0 adds,
      edges_more l c.args.nodes.now c.loop-edge.arena c.add_edge.new.self c.loop-edge.edge-index c.loop-edge.keys.items c.push.new.self.items c.in_ok-add_edge.field-0 c.loop-edge.invariant.1 adds c.in_ok-push.ensures.items,
    )
