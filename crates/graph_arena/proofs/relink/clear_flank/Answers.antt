use Rattle.std.proofs.Common.{◌≡◌, arith, Some, ◌∙◌, sym}
use Rattle.graph_arena.specs.Graph.{Ends, ends_at}
use Rattle.graph_arena.specs.Flanks.{graph_of, owner}
use Rattle.graph_arena.proofs.Moves.{owner_live}
use Rattle.graph_arena.proofs.Views.{edge_is, node_is}
use Rattle.graph_arena.proofs.Whole.{some_of}
use Rattle.graph_arena.proofs.Removal.{first_owned, owner_touches, fewer_keys, peel_more}
use Rattle.graph_arena.proofs.relink.clear_flank.Goals as goal
use Rattle.graph_arena.proofs.relink.clear_flank.Goals.{After-take_edge}

pub take_edge-requires-clause-edge : goal.take_edge-requires-clause-edge
take_edge-requires-clause-edge c =
    owner_live c.args.flank _ c.args.node
    (first_owned c.args.flank c.edges.nodes c.edges.edges c.args.node c.in-Some.edge c.row_at.result (c.edges.invariant.sound.flanks c.args.flank) c.row_at.ensures c.in-Some.is)

owned_first : (c : After-take_edge) → owner c.args.flank c.edges.edges c.in-Some.edge ≡ Some c.args.node
owned_first c = first_owned c.args.flank c.edges.nodes c.edges.edges c.args.node c.in-Some.edge c.row_at.result (c.edges.invariant.sound.flanks c.args.flank) c.row_at.ensures c.in-Some.is

known : (c : After-take_edge) → (x : Ends) × (ends_at (graph_of c.edges.nodes c.edges.edges) c.in-Some.edge ≡ Some x)
known c = some_of (ends_at (graph_of c.edges.nodes c.edges.edges) c.in-Some.edge) (edge_is c.edges.nodes c.edges.edges c.in-Some.edge ∙ owner_live c.args.flank _ c.args.node (owned_first c))

pub edges-smaller : goal.edges-smaller
edges-smaller c =
    let x = known c in
    fewer_keys c.args.flank c.edges.nodes c.take_edge.new.nodes c.edges.edges c.take_edge.new.edges c.args.node c.in-Some.edge x.0 c.edges.invariant.sound x.1 (owned_first c) (c.take_edge.ensures.removed x.0 x.1)

pub edges-preserved : goal.edges-preserved
edges-preserved c =
    let x = known c in
    let r = c.take_edge.ensures.removed x.0 x.1 in
    let p = peel_more (graph_of c.args.nodes.now c.args.edges.now) (graph_of c.edges.nodes c.edges.edges) (graph_of c.take_edge.new.nodes c.take_edge.new.edges) c.args.node c.in-Some.edge x.0.tail x.0.head c.edges.invariant.peeled x.1 (owner_touches c.args.flank c.edges.nodes c.edges.edges c.args.node c.in-Some.edge x.0 c.edges.invariant.sound x.1 (owned_first c)) r in
    record {
      sound = c.take_edge.ensures.sound;
      live = sym (node_is c.take_edge.new.nodes c.take_edge.new.edges c.args.node) ∙ (r.same_nodes c.args.node).1 (node_is c.edges.nodes c.edges.edges c.args.node ∙ c.edges.invariant.live);
      peeled = p;
      room = record {
        for_nodes = omega (arith, c.edges.invariant.room.for_nodes, c.take_edge.ensures.room.for_nodes);
        for_edges = omega (arith, c.edges.invariant.room.for_edges, c.take_edge.ensures.room.for_edges);
      };
    }
