use Rattle.std.proofs.Common.{◌≡◌, ℕ, ◌<◌, length}
use Rattle.std.specs.Prelude.{slice_index}
use Rattle.level_layout.specs.Marks.{node_of}
use Rattle.level_layout.proofs.chaining.note_layers.Given as goal

abbrev pub invariant-loop-c : goal.invariant-loop-c
invariant-loop-c l = (length l.by_node ≡ length l.initial.by_node) × ((b : ℕ) → b < l.c → slice_index l.by_node (node_of l.nodes b) ≡ slice_index l.layers b)
