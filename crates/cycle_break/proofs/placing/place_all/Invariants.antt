use Rattle.std.proofs.Common.{◌↔◌, ℕ}
use Rattle.graph_arena.specs.Graph.{IsNode}
use Rattle.cycle_break.proofs.placing.place_all.Given as goal

abbrev pub invariant-loop-at : goal.invariant-loop-at
invariant-loop-at l = (v : ℕ) → IsNode l.work v ↔ IsNode l.fn.arena v
