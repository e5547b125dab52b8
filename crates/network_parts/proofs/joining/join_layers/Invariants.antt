use Rattle.std.proofs.Common.{◌≡◌, ◌<◌, ◌^◌, ℕ, pos, ◌<ℤ◌, length, slice_index}
use Rattle.network_laws.specs.Layering.{layer_of}
use Rattle.network_parts.specs.Answers.{layers_in}
use Rattle.network_parts.proofs.joining.join_layers.Given as goal

abbrev pub invariant-loop-v : goal.invariant-loop-v
invariant-loop-v l =
    (length l.layers.items ≡ l.v)
    × ((v : ℕ) → v < l.v → layer_of l.layers.items v ≡ layer_of (layers_in l.solutions (slice_index l.numbers v)) (slice_index l.places v))
    × ((v : ℕ) → v < l.v → layer_of l.layers.items v <ℤ pos (2 ^ 63))
