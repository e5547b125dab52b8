-- One row: its layer's units, each once.
use Rattle.std.specs.Prelude.{◌≡◌, ℕ, ◌<◌, List, length, slice_index}
use Rattle.elk_layers.specs.Layered.{Plain, layer_of, HasUnit}
use Rattle.elk_layers.specs.Places.{IsOnce}

pub record IsRow (layered : Plain) (r : ℕ) (row : List ℕ) : Type 0 where
  pub in_range : (i : ℕ) → i < length row → slice_index row i < length layered.units
  pub in_layer : (i : ℕ) → i < length row → layer_of layered (slice_index row i) ≡ r
  pub complete : (u : ℕ) → u < length layered.units → layer_of layered u ≡ r → HasUnit row u
  pub once : IsOnce row
