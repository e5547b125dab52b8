use Rattle.std.proofs.Common.{◌≡◌, ℕ, ◌<◌, pos, length, get_or}
use Rattle.network_laws.specs.Layering.{layer_of}
use Rattle.net_simplex.proofs.solving.as_layers.Given as goal

abbrev pub invariant-loop-v : goal.invariant-loop-v
invariant-loop-v l = (length l.layers.items ≡ length l.sums) × ((v : ℕ) → v < l.v → layer_of l.layers.items v ≡ pos (get_or l.sums v 0))
