-- Orders in which some units are held.
use Rattle.std.specs.Prelude.{◌≡◌, ◌⊎◌, ℕ, ◌+◌, ◌<◌, ◌≤◌, ◌<ℤ◌, ℤ, pos, List, [], ◌∷◌, length, Option, None, unwrap_or, is_some, slice_index, slice_index_or}
use Rattle.std.specs.Prelude.{Bool, false, true, ◌&&◌, IsTrue, IsFalse, ⊤}
use Rattle.std.specs.List.{All}
use Rattle.elk_layers.specs.Layered.{Plain, row_at, rows_of}
use Rattle.elk_layers.specs.Crossings.{crossings, exchanged}
use Rattle.cross_reduce.specs.declared.reducing.Counted.{Counted}
use Rattle.cross_reduce.specs.Candidates.{IsBestFrom}

-- the key of a unit, by a list with an entry for each unit; a unit without a key is free
abbrev pub key_at : List (Option ℤ) → ℕ → Option ℤ
key_at held u = slice_index_or held u None

abbrev pub is_held : List (Option ℤ) → ℕ → Bool
is_held held u = is_some (key_at held u)

abbrev pub key_of : List (Option ℤ) → ℕ → ℤ
key_of held u = unwrap_or (key_at held u) (pos 0)

-- one held unit goes before another: by the lower key, and where the keys are equal by the lower number
abbrev pub GoesBefore : List (Option ℤ) → ℕ → ℕ → Type 0
GoesBefore held u v = (key_of held u <ℤ key_of held v) ⊎ ((key_of held u ≡ key_of held v) × (u ≤ v))

-- each held unit of a row goes before the held units below it
abbrev pub IsHeldRow : List (Option ℤ) → List ℕ → Type 0
IsHeldRow held [] = ⊤
IsHeldRow held (u ∷ row) = (IsTrue (is_held held u) → All (λ v. IsTrue (is_held held v) → GoesBefore held u v) row) × IsHeldRow held row

abbrev pub AreHeldRows : List (Option ℤ) → List (List ℕ) → Type 0
AreHeldRows held rows = (r : ℕ) → r < length rows → IsHeldRow held (row_at rows r)

-- both neighbours of a row are held, so they may not be exchanged
abbrev pub are_both_held : List (Option ℤ) → List ℕ → ℕ → Bool
are_both_held held row i = is_held held (slice_index row i) && is_held held (slice_index row (i + 1))

-- no exchange of two neighbours of a row lowers the crossings, unless both are held
abbrev pub NoBetterFreeSwap : Plain → List (Option ℤ) → List (List ℕ) → Type 0
NoBetterFreeSwap layered held rows =
    (r i : ℕ) → r < length rows → i + 1 < length (row_at rows r) → IsFalse (are_both_held held (row_at rows r) i)
    → crossings layered rows ≤ crossings layered (exchanged rows r i)

-- ---- for private clauses

-- no unit is held
abbrev pub IsNoneHeld : List (Option ℤ) → Type 0
IsNoneHeld held = (u : ℕ) → IsFalse (is_held held u)

-- an exchange that may be made does not lower the crossings
abbrev pub IsNoBetterFree : Plain → List (Option ℤ) → List (List ℕ) → ℕ → ℕ → Type 0
IsNoBetterFree layered held rows r i =
    IsFalse (are_both_held held (row_at rows r) i) → crossings layered rows ≤ crossings layered (exchanged rows r i)

-- none in a row lowers them
abbrev pub NoneFreeInRow : Plain → List (Option ℤ) → List (List ℕ) → ℕ → Type 0
NoneFreeInRow layered held rows r = (i : ℕ) → i + 1 < length (row_at rows r) → IsNoBetterFree layered held rows r i

-- of each row of which the list says that it is settled: no exchange that may be made in it lowers the crossings
pub record AreSettled (layered : Plain) (held : List (Option ℤ)) (rows : List (List ℕ)) (settled : List Bool) : Type 0 where
  pub as_many : length settled ≡ length rows
  pub none : (r : ℕ) → r < length rows → slice_index_or settled r false ≡ true → NoneFreeInRow layered held rows r

-- an order of the same rows in which the units are held, with the number of its crossings
pub record IsHeldFrom (layered : Plain) (held : List (Option ℤ)) (rows : List (List ℕ)) (kept : Counted) : Type 0 where
  pub best : IsBestFrom layered rows kept
  pub ascends : AreHeldRows held (rows_of kept.order)
