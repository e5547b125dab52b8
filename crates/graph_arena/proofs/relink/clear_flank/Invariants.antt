use Rattle.std.proofs.Common.{length}
use Rattle.slab.specs.Slab.{ContainsKey}
use Rattle.graph_arena.specs.Flanks.{IsSound, graph_of, keys}
use Rattle.graph_arena.specs.Changes.{Peels, LeavesRoom}
use Rattle.graph_arena.proofs.relink.clear_flank.Given as goal

abbrev pub invariant-edges : goal.invariant-edges
invariant-edges l =
    record {
      sound : IsSound l.nodes l.edges;
      live : ContainsKey l.nodes l.node;
      peeled : Peels (graph_of l.initial.nodes l.initial.edges) (graph_of l.nodes l.edges) l.node;
      room : LeavesRoom (graph_of l.initial.nodes l.initial.edges) (graph_of l.nodes l.edges) 0 0;
    }

abbrev pub decreases-edges : goal.decreases-edges
decreases-edges l = length (keys l.flank l.nodes l.edges l.node)
