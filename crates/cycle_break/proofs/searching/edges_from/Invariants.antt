use Rattle.std.proofs.Common.{◌<◌, ℕ, List, Option, length}
use Rattle.graph_arena.specs.Graph.{Graph, occurs}
use Rattle.cycle_break.specs.Ways.{IsPath, edge_keys, nodes_on}
use Rattle.cycle_break.specs.Search.{WayOn, IsIndexed, IsFrom, reached_at}
use Rattle.cycle_break.proofs.searching.edges_from.Given as goal

abbrev pub invariant-ways : goal.invariant-ways
invariant-ways l =
    record {
      at : l.at < length l.reached;
      path : (g : Graph) (to : ℕ) (index : List (Option ℕ)) → ((k : ℕ) → k < length l.reached → WayOn g to l.reached k (reached_at l.reached k).node.at (reached_at l.reached k).via) → IsIndexed l.reached index
          → IsPath g (reached_at l.reached l.from).node.at (edge_keys l.edges.items) (reached_at l.reached l.at).node.at × ((v : ℕ) → 0 < occurs v (nodes_on g (reached_at l.reached l.from).node.at (edge_keys l.edges.items)) → IsFrom l.reached l.at v);
    }

abbrev pub decreases-ways : goal.decreases-ways
decreases-ways l = l.at
