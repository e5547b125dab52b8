-- Values under floors and bounds.
use Rattle.std.specs.Prelude.{◌≡◌, ℕ, ◌<◌, ◌^◌, ℤ, pos, ◌+ℤ◌, ◌≤ℤ◌, ◌<ℤ◌, List, length, slice_index_or, slice_set, Option, Some, None, ◌⊎◌}
use Rattle.separation.specs.declared.bounds.Bound.{Bound}
use Rattle.separation.specs.Order.{IsOrder, GoesForward, bound_at}

abbrev pub value_at : List ℤ → ℕ → ℤ
value_at values i = slice_index_or values i (pos 0)

-- from -2 ^ 60 to 2 ^ 60
pub record IsWithin (z : ℤ) : Type 0 where
  pub low : pos 0 ≤ℤ (z +ℤ pos (2 ^ 60))
  pub high : z ≤ℤ pos (2 ^ 60)

abbrev pub KeepsBound : List ℤ → Bound → Type 0
KeepsBound values b = (value_at values b.before +ℤ b.gap) ≤ℤ value_at values b.after

-- the values keep all floors and all bounds
pub record Keeps (floor : List ℤ) (limits : List Bound) (values : List ℤ) : Type 0 where
  pub floors : (i : ℕ) → i < length floor → value_at floor i ≤ℤ value_at values i
  pub bounds : (k : ℕ) → k < length limits → KeepsBound values (bound_at limits k)

-- no value is above that of any list that keeps the floors and bounds
abbrev pub Below : List ℤ → List Bound → List ℤ → Type 0
Below floor bounds values =
    (other : List ℤ) → Keeps floor bounds other → (i : ℕ) → i < length floor → value_at values i ≤ℤ value_at other i

-- the place is held up by the bound of that number, or it stands at its floor
abbrev pub IsTight : List ℤ → List Bound → List ℤ → ℕ → Option ℕ → Type 0
IsTight floor bounds values i None = value_at values i ≡ value_at floor i
IsTight floor bounds values i (Some k) =
    (k < length bounds) × (value_at floor i <ℤ value_at values i)
    × ((bound_at bounds k).after ≡ i)
    × (value_at values i ≡ value_at values (bound_at bounds k).before +ℤ (bound_at bounds k).gap)

-- some values below 2 ^ 60 keep all floors and bounds
pub record CanKeep (floor : List ℤ) (bounds : List Bound) : Type 0 where
  pub values : List ℤ
  pub kept : Keeps floor bounds values
  pub small : (i : ℕ) → i < length floor → value_at values i <ℤ pos (2 ^ 60)

-- what `least_lines` asks
pub record IsSolvable (order : List ℕ) (floor : List ℤ) (bounds : List Bound) : Type 0 where
  pub is_order : IsOrder order (length floor)
  pub forward : (k : ℕ) → k < length bounds → GoesForward order (bound_at bounds k)
  pub few : length bounds < 2 ^ 32
  pub gaps : (k : ℕ) → k < length bounds → IsWithin (bound_at bounds k).gap
  pub floors : (i : ℕ) → i < length floor → IsWithin (value_at floor i)
  pub can_keep : CanKeep floor bounds

-- what it answers: the values keep all, none is above that of a list that keeps all, and `holds` names
-- for each place the bound that holds it up
pub record Settled (floor : List ℤ) (bounds : List Bound) (values : List ℤ) (holds : List (Option ℕ)) : Type 0 where
  pub as_long : length values ≡ length floor
  pub keeps : Keeps floor bounds values
  pub least : Below floor bounds values
  pub holds_as_long : length holds ≡ length floor
  pub tight : (i : ℕ) → i < length floor → IsTight floor bounds values i (slice_index_or holds i None)

-- the values and holders after a bound was looked at: kept where it holds, else its `after` is raised to it
abbrev pub Relaxed : List ℤ → List (Option ℕ) → Bound → ℕ → List ℤ → List (Option ℕ) → Type 0
Relaxed values holds b number values' holds' =
    let low = value_at values b.before +ℤ b.gap in
    ((low ≤ℤ value_at values b.after) × (values' ≡ values) × (holds' ≡ holds))
    ⊎ ((value_at values b.after <ℤ low) × (values' ≡ slice_set values b.after low) × (holds' ≡ slice_set holds b.after (Some number)))
