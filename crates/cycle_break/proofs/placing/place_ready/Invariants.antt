use Rattle.std.proofs.Common.{◌↔◌, ◌+◌, ◌*◌, ◌^◌, ℕ, count_by, vec_len}
use Rattle.std.specs.Option.{is_none}
use Rattle.graph_arena.specs.Graph.{IsNode}
use Rattle.cycle_break.proofs.placing.place_ready.Given as goal

abbrev pub invariant-nodes : goal.invariant-nodes
invariant-nodes l = (v : ℕ) → IsNode l.work v ↔ IsNode l.initial.work v

abbrev pub decreases-nodes : goal.decreases-nodes
decreases-nodes l = count_by is_none l.places * 2 ^ 64 + vec_len l.ready
