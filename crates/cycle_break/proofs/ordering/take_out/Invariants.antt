use Rattle.std.proofs.Common.{◌<◌, ◌↔◌, ℕ, List, length}
use Rattle.graph_arena.specs.Graph.{Graph, IsNode, out_list, occurs}
use Rattle.cycle_break.specs.Ways.{node_keys}
use Rattle.cycle_break.specs.Search.{Sorted}
use Rattle.cycle_break.proofs.ordering.take_out.Given as goal

abbrev pub invariant-edges : goal.invariant-edges
invariant-edges l =
    record {
      live : IsNode l.work l.node.at;
      same : (v : ℕ) → IsNode l.work v ↔ IsNode l.initial.work v;
      sorted : (g : Graph) (early late : List ℕ) → 0 < occurs l.node.at late → Sorted g l.initial.work early late (node_keys l.initial.ready.items) → Sorted g l.work early late (node_keys l.ready.items);
    }

abbrev pub decreases-edges : goal.decreases-edges
decreases-edges l = length (out_list l.work l.node.at)
