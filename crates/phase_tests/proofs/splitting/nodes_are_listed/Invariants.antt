use Rattle.std.proofs.Common.{ℕ, ◌<◌, length}
use Rattle.graph_arena.specs.Graph.{IsNode}
use Rattle.phase_tests.proofs.splitting.nodes_are_listed.Given as goal

abbrev pub invariant-loop-at : goal.invariant-loop-at
invariant-loop-at l = (v : ℕ) → IsNode l.arena v → v < l.at → v < length l.layer
