use Rattle.std.proofs.Common.{◌↔◌, ℕ, length}
use Rattle.graph_arena.specs.Graph.{IsNode, in_list}
use Rattle.cycle_break.proofs.placing.take_in.Given as goal

abbrev pub invariant-edges : goal.invariant-edges
invariant-edges l = record { live : IsNode l.work l.node.at; same : (v : ℕ) → IsNode l.work v ↔ IsNode l.initial.work v }

abbrev pub decreases-edges : goal.decreases-edges
decreases-edges l = length (in_list l.work l.node.at)
