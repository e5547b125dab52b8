use Rattle.std.proofs.Common.{◌≡◌, ◌+◌, ◌≤◌, vec_len}
use Rattle.std.specs.Vec.{vec_capacity}
use Rattle.graph_arena.specs.Graph.{IsEdge}
use Rattle.long_edges.specs.Growing.{Extended}
use Rattle.long_edges.proofs.splitting.climb.Given as goal

abbrev pub invariant-loop-step : goal.invariant-loop-step
invariant-loop-step l =
    record {
      live : IsEdge l.arena l.top.at;
      extended : Extended l.fn.arena l.arena l.edge.at l.top.at l.low l.step l.fn.lanes.items l.lanes.items l.fn.edges.items l.edges.items;
      node_room : l.fn.arena.node_room + 1 ≤ l.arena.node_room + l.step;
      edge_room : l.fn.arena.edge_room + 1 ≤ l.arena.edge_room + l.step;
      lane_count : vec_len l.lanes + 1 ≡ vec_len l.fn.lanes + l.step;
      lane_capacity : vec_capacity l.fn.lanes ≤ vec_capacity l.lanes;
      chain_capacity : vec_capacity l.fn.edges ≤ vec_capacity l.edges;
    }
