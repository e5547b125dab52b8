use Rattle.std.proofs.Common.{ℕ, ◌<◌}
use Rattle.graph_arena.specs.Graph.{IsEdge}
use Rattle.cycle_break.proofs.ordering.has_edges.Given as goal

abbrev pub invariant-loop-at : goal.invariant-loop-at
invariant-loop-at l = (k : ℕ) → k < l.at → IsEdge l.arena k → ⊥
