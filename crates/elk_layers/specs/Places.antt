-- The places of units in their rows.
use Rattle.std.specs.Prelude.{◌≡◌, ◌≢◌, ℕ, ◌<◌, List, length, slice_index}
use Rattle.elk_layers.specs.Layered.{Plain, layer_of, place_of}

-- no unit stands in the row twice
abbrev pub IsOnce : List ℕ → Type 0
IsOnce row = (i j : ℕ) → i < j → j < length row → slice_index row i ≢ slice_index row j

-- the list of places after those of the first units of a row were noted in it
pub record NotesFirst (old row : List ℕ) (count : ℕ) (new : List ℕ) : Type 0 where
  pub as_long : length new ≡ length old
  pub noted : (i : ℕ) → i < count → slice_index new (slice_index row i) ≡ i
  pub kept : (u : ℕ) → ((i : ℕ) → i < count → slice_index row i ≢ u) → slice_index new u ≡ slice_index old u

-- the list has the place of each unit in its row
pub record ArePlaces (layered : Plain) (rows : List (List ℕ)) (place : List ℕ) : Type 0 where
  pub as_long : length place ≡ length layered.units
  pub place_is : (u : ℕ) → u < length layered.units → slice_index place u ≡ place_of layered rows u

-- the list has the places of the units of the first layers
pub record PlacedBelow (layered : Plain) (rows : List (List ℕ)) (r : ℕ) (place : List ℕ) : Type 0 where
  pub as_long : length place ≡ length layered.units
  pub place_is : (u : ℕ) → u < length layered.units → layer_of layered u < r → slice_index place u ≡ place_of layered rows u
