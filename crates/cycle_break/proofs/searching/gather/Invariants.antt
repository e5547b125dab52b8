use Rattle.std.proofs.Common.{◌≡◌, ◌<◌, ◌+◌, ◌↔◌, ℕ, length, count_by}
use Rattle.std.specs.Option.{is_none}
use Rattle.graph_arena.specs.Graph.{Graph, IsNode, in_list}
use Rattle.cycle_break.specs.Search.{IsReady, Searched, reached_at}
use Rattle.cycle_break.proofs.searching.gather.Given as goal

abbrev pub invariant-edges : goal.invariant-edges
invariant-edges l =
    record {
      ready : IsReady l.work l.reached.items l.index;
      next : l.next < length l.reached.items;
      entry : (reached_at l.reached.items l.next).node ≡ l.node;
      same : (v : ℕ) → IsNode l.work v ↔ IsNode l.initial.work v;
      count : count_by is_none l.index + length l.reached.items ≡ count_by is_none l.initial.index + length l.initial.reached.items;
      searched : (g : Graph) (to : ℕ) → Searched g l.initial.work to l.next l.initial.reached.items l.initial.index → Searched g l.work to l.next l.reached.items l.index;
    }

abbrev pub decreases-edges : goal.decreases-edges
decreases-edges l = length (in_list l.work l.node.at)
