-- An order of the numbers below a count, and what it means that a bound goes forward in it.
use Rattle.std.specs.Prelude.{◌≡◌, ◌≢◌, ℕ, ◌<◌, pos, List, length, slice_index, slice_index_or}
use Rattle.separation.specs.declared.bounds.Bound.{Bound}

abbrev pub bound_at : List Bound → ℕ → Bound
bound_at bounds k = slice_index_or bounds k (record { before = 0; after = 0; gap = pos 0 })

-- each number below the count stands in the order once
pub record IsOrder (order : List ℕ) (count : ℕ) : Type 0 where
  pub as_long : length order ≡ count
  pub in_range : (p : ℕ) → p < length order → slice_index order p < count
  pub distinct : (p q : ℕ) → p < q → q < length order → slice_index order p ≢ slice_index order q

-- the list has each number's position in the order
pub record PositionsOf (order : List ℕ) (count : ℕ) (position : List ℕ) : Type 0 where
  pub as_long : length position ≡ count
  pub position_of : (p : ℕ) → p < length order → slice_index position (slice_index order p) ≡ p

-- the bound leads from an earlier number of the order to a later one
pub record GoesForward (order : List ℕ) (b : Bound) : Type 0 where
  pub from : ℕ
  pub to : ℕ
  pub forward : from < to
  pub within : to < length order
  pub from_is : slice_index order from ≡ b.before
  pub to_is : slice_index order to ≡ b.after
