-- Places of units that fit a key.
use Rattle.std.specs.Prelude.{◌≡◌, ℕ, ◌<◌, List, length, slice_index}
use Rattle.elk_layers.specs.Layered.{Plain}

-- the list has a place below 65,536 for each unit
pub record FitPlaces (layered : Plain) (place : List ℕ) : Type 0 where
  pub as_long : length place ≡ length layered.units
  pub small : (u : ℕ) → u < length layered.units → slice_index place u < 65536
