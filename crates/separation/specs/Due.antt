-- The bounds in the order in which their `before`s become final.
use Rattle.std.specs.Prelude.{◌≡◌, ◌≢◌, ℕ, ◌<◌, ◌≤◌, ℤ, List, length, slice_index, slice_index_or, Option, None}
use Rattle.std.specs.List.{All, Contains}
use Rattle.std.specs.List.Sorted.{IsNonDecreasingBy}
use Rattle.separation.specs.declared.bounds.Bound.{Bound}
use Rattle.separation.specs.declared.walk.Due.{Due}
use Rattle.separation.specs.Order.{bound_at}
use Rattle.separation.specs.Lines.{value_at, IsWithin, CanKeep}

abbrev pub due_at : List Due → ℕ → Due
due_at due j = slice_index_or due j (record { position = 0; bound = 0 })

abbrev pub bound_of : List Bound → List Due → ℕ → Bound
bound_of bounds due j = bound_at bounds (due_at due j).bound

-- the entry has the number of a bound, and the position of that bound's `before`
pub record IsDue (bounds : List Bound) (position : List ℕ) (d : Due) : Type 0 where
  pub is_bound : d.bound < length bounds
  pub position_is : d.position ≡ slice_index position (bound_at bounds d.bound).before

-- an entry of the list has that number
pub record HasDue (due : List Due) (k : ℕ) : Type 0 where
  pub entry : Due
  pub is_there : Contains due entry
  pub number_is : entry.bound ≡ k

pub record DueBounds (bounds : List Bound) (position : List ℕ) (due : List Due) : Type 0 where
  pub sound : All (IsDue bounds position) due
  pub complete : (k : ℕ) → k < length bounds → HasDue due k
  pub rising : IsNonDecreasingBy (λ (d : Due). d.position) due

-- what the walk over the entries needs: no bound into a place comes after one out of it
pub record IsReady (floor : List ℤ) (bounds : List Bound) (due : List Due) : Type 0 where
  pub numbers : (j : ℕ) → j < length due → (due_at due j).bound < length bounds
  pub complete : (k : ℕ) → k < length bounds → HasDue due k
  pub before : (j : ℕ) → j < length due → (bound_of bounds due j).before < length floor
  pub after : (j : ℕ) → j < length due → (bound_of bounds due j).after < length floor
  pub final : (i j : ℕ) → i ≤ j → j < length due → (bound_of bounds due i).before ≢ (bound_of bounds due j).after
  pub gaps : (j : ℕ) → j < length due → IsWithin (bound_of bounds due j).gap
  pub floors : (i : ℕ) → i < length floor → IsWithin (value_at floor i)
  pub can_keep : CanKeep floor bounds

-- each place stands at its floor
pub record HoldsNothing (floor : List ℤ) (holds : List (Option ℕ)) : Type 0 where
  pub as_long : length holds ≡ length floor
  pub nothing : (i : ℕ) → i < length floor → slice_index_or holds i None ≡ None
