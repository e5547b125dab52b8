-- Layers lowered so that the least of each part is 0.
use Rattle.std.specs.Prelude.{◌≡◌, ℕ, ◌<◌, ◌≤◌, ◌^◌, ◌-◌, ◌⊎◌, ℤ, pos, ◌-ℤ◌, ◌+ℤ◌, ◌≤ℤ◌, List, length, slice_index}
use Rattle.network_laws.specs.declared.network.NetEdge.{NetEdge}
use Rattle.network_laws.specs.Network.{edge_at}
use Rattle.network_laws.specs.Layering.{layer_of}

-- each edge rises as far as before
abbrev pub KeepsRises : List NetEdge → List ℤ → List ℤ → Type 0
KeepsRises edges old new =
    (k : ℕ) → k < length edges
    → layer_of new (edge_at edges k).head -ℤ layer_of new (edge_at edges k).tail
    ≡ layer_of old (edge_at edges k).head -ℤ layer_of old (edge_at edges k).tail

-- the least layer of the first nodes by their part, and the greatest number of all where a part has none of them
pub record AreLeast (parts : List ℕ) (layers : List ℤ) (i : ℕ) (least : List ℤ) : Type 0 where
  pub as_long : length least ≡ length parts
  pub no_more : (v : ℕ) → v < i → layer_of least (slice_index parts v) ≤ℤ layer_of layers v
  pub attained : (p : ℕ) → p < length parts
      → (layer_of least p ≡ pos (2 ^ 63 - 1)) ⊎ ((u : ℕ) × (u < i) × (slice_index parts u ≡ p) × (layer_of layers u ≡ layer_of least p))

-- the first nodes are lowered by the least layer of their part
pub record AreLowered (parts : List ℕ) (least : List ℤ) (i : ℕ) (old new : List ℤ) : Type 0 where
  pub as_long : length new ≡ length old
  pub lowered : (v : ℕ) → v < i → layer_of new v +ℤ layer_of least (slice_index parts v) ≡ layer_of old v
  pub kept : (v : ℕ) → i ≤ v → layer_of new v ≡ layer_of old v
