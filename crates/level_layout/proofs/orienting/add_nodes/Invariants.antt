use Rattle.std.proofs.Common.{◌≡◌, ℕ, None}
use Rattle.graph_arena.specs.Graph.{ends_at}
use Rattle.level_layout.specs.Marks.{AreNodes}
use Rattle.level_layout.proofs.orienting.add_nodes.Given as goal

abbrev pub invariant-loop : goal.invariant-loop
invariant-loop l = AreNodes l.arena l.counter l.nodes.items × ((k : ℕ) → ends_at l.arena k ≡ None)
