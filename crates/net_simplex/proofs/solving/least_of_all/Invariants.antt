use Rattle.std.proofs.Common.{◌≡◌, ℕ, ◌<◌, ◌≤ℤ◌, length}
use Rattle.network_laws.specs.Layering.{layer_of}
use Rattle.net_simplex.proofs.solving.least_of_all.Given as goal

abbrev pub invariant-loop-v : goal.invariant-loop-v
invariant-loop-v l =
    ((u : ℕ) → u < l.v → l.least ≤ℤ layer_of l.layers u)
    × ((u : ℕ) × (u < length l.layers) × (layer_of l.layers u ≡ l.least))
