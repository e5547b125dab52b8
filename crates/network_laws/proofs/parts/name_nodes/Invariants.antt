use Rattle.std.proofs.Common.{◌≡◌, ℕ, ◌<◌, length, get_or}
use Rattle.network_laws.proofs.parts.name_nodes.Given as goal

abbrev pub invariant-loop-v : goal.invariant-loop-v
invariant-loop-v l = (length l.names ≡ length l.initial.names) × ((v : ℕ) → v < l.v → get_or l.names v 0 ≡ v)
