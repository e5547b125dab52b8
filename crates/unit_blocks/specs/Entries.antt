-- The chosen link into each unit.
use Rattle.std.specs.Prelude.{◌≡◌, ◌≢◌, ℕ, ◌<◌, List, length, slice_index, slice_index_or, Bool, true, false, Option, Some, None}
use Rattle.elk_layers.specs.Layered.{Plain}
use Rattle.elk_layers.specs.Straight.{chosen_link}

-- chosen links end at different units
pub record HaveOwnHeads (l : Plain) (chosen : List ℕ) : Type 0 where
  pub known : (j : ℕ) → j < length chosen → slice_index chosen j < length l.links
  pub in_range : (j : ℕ) → j < length chosen → (chosen_link l chosen j).head < length l.units
  pub differ : (i j : ℕ) → i < j → j < length chosen → (chosen_link l chosen i).head ≢ (chosen_link l chosen j).head

-- the first chosen links stand at the units that they end at, and nothing else stands anywhere
pub record AreLinksInto (l : Plain) (chosen : List ℕ) (done : ℕ) (into : List (Option ℕ)) : Type 0 where
  pub as_many : length into ≡ length l.units
  pub there : (j : ℕ) → j < done → slice_index_or into (chosen_link l chosen j).head None ≡ Some (slice_index chosen j)
  pub only : (u k : ℕ) → slice_index_or into u None ≡ Some k
      → (j : ℕ) × (j < done) × (slice_index chosen j ≡ k) × ((chosen_link l chosen j).head ≡ u)

-- the list says of each number whether it is among the first chosen links
pub record AreChosenMarks (chosen : List ℕ) (done count : ℕ) (marks : List Bool) : Type 0 where
  pub as_many : length marks ≡ count
  pub marked : (j : ℕ) → j < done → slice_index_or marks (slice_index chosen j) false ≡ true
  pub only : (k : ℕ) → slice_index_or marks k false ≡ true → (j : ℕ) × (j < done) × (slice_index chosen j ≡ k)

-- those chosen links that have numbers below a bound stand at the units that they end at, and nothing else stands anywhere
pub record AreLinksBelow (l : Plain) (chosen : List ℕ) (bound : ℕ) (into : List (Option ℕ)) : Type 0 where
  pub as_many : length into ≡ length l.units
  pub there : (j : ℕ) → j < length chosen → slice_index chosen j < bound
      → slice_index_or into (chosen_link l chosen j).head None ≡ Some (slice_index chosen j)
  pub only : (u k : ℕ) → slice_index_or into u None ≡ Some k
      → (j : ℕ) × (j < length chosen) × (slice_index chosen j ≡ k) × ((chosen_link l chosen j).head ≡ u)
