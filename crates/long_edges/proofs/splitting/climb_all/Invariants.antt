use Rattle.std.proofs.Common.{◌≡◌, drop, vec_len}
use Rattle.graph_arena.specs.Graph.{Graph}
use Rattle.graph_arena.specs.Changes.{IsSame}
use Rattle.long_edges.specs.Growing.{HasRooms, Reached}
use Rattle.long_edges.proofs.splitting.climb_all.Given as goal

abbrev pub invariant-loop-at : goal.invariant-loop-at
invariant-loop-at l =
    record {
      count : vec_len l.found.spans ≡ l.at;
      rooms : HasRooms l.arena l.found (drop l.at l.heights);
      reached : (old : Graph) → IsSame old l.fn.arena → Reached old l.arena l.layer l.found.lanes.items l.found.edges.items l.found.spans.items;
    }
