-- A list kept by links from each element to the next, which begins and ends at one marker.
use Rattle.std.specs.Prelude.{◌≡◌, ◌≢◌, ℕ, ◌<◌, ◌≤◌, List, [], ◌∷◌, ◌++◌, length, slice_index, slice_index_or, slice_set, drop, take, Bool}
use Rattle.std.specs.Prelude.{true, false, Option, None, is_some, ◌⊎◌}
use Rattle.unit_blocks.specs.Weaving.{woven, CanWeave}
use Rattle.elk_layers.specs.Layered.{Plain, IsSound, AreRows}
use Rattle.unit_blocks.specs.Blocks.{name_at, names_of, AreNames, IsEntered, IsWovenTo, woven_rows, block_order}
use Rattle.elk_layers.specs.Occurring.{occurs, HasNoRepeat}
use Rattle.elk_layers.specs.Straight.{AreStraight}

-- from x the links lead through the list, and from its last element to the end
abbrev pub IsChain : List ℕ → ℕ → List ℕ → ℕ → Type 0
IsChain next x [] end = slice_index next x ≡ end
IsChain next x (y ∷ ys) end = (slice_index next x ≡ y) × IsChain next y ys end

-- a new element put in after another
abbrev pub inserted_after : List ℕ → ℕ → ℕ → List ℕ
inserted_after next x new = slice_set (slice_set next new (slice_index next x)) x new

-- the last of a list, or the marker before it
abbrev pub last_of : ℕ → List ℕ → ℕ
last_of x [] = x
last_of x (y ∷ ys) = last_of y ys

abbrev pub has_entry : List (Option ℕ) → ℕ → Bool
has_entry into u = is_some (slice_index_or into u None)

-- the cursor and the links after a unit was looked at
abbrev pub StepsTo : List (Option ℕ) → List ℕ → ℕ → ℕ → List ℕ → ℕ → List ℕ → Type 0
StepsTo into names u cursor next cursor' next' =
    ((has_entry into u ≡ true) × (cursor' ≡ name_at names u) × (next' ≡ next))
    ⊎ ((has_entry into u ≡ false) × (cursor' ≡ u) × (next' ≡ inserted_after next cursor u))

-- a row whose known names are those of the entered units can be woven into the order
pub record IsWeavable (known : ℕ → Bool) (order row : List ℕ) (into : List (Option ℕ)) (names : List ℕ) (end : ℕ) : Type 0 where
  pub can : CanWeave known order (names_of names row)
  pub no_repeat : HasNoRepeat (woven known order (names_of names row))
  pub below : (n : ℕ) → 1 ≤ occurs n (woven known order (names_of names row)) → n < end
  pub entered : (i : ℕ) → i < length row → known (name_at names (slice_index row i)) ≡ has_entry into (slice_index row i)
  pub own : (i : ℕ) → i < length row → has_entry into (slice_index row i) ≡ false → name_at names (slice_index row i) ≡ slice_index row i

-- a row woven in as far as some element
pub record IsWovenAt (known : ℕ → Bool) (order row : List ℕ) (names : List ℕ) (end : ℕ) (at cursor : ℕ) (next : List ℕ) : Type 0 where
  pub before : List ℕ
  pub after : List ℕ
  pub chain : IsChain next end (before ++ after) end
  pub cursor_is : cursor ≡ last_of end before
  pub can : CanWeave known after (names_of names (drop at row))
  pub target : before ++ woven known after (names_of names (drop at row)) ≡ woven known order (names_of names row)

-- the units that a chosen link enters are those with an entry
pub record AreEntries (l : Plain) (chosen : List ℕ) (into : List (Option ℕ)) : Type 0 where
  pub as_many : length into ≡ length l.units
  pub entered : (u : ℕ) → u < length l.units → IsEntered l chosen u → has_entry into u ≡ true
  pub only : (u : ℕ) → u < length l.units → has_entry into u ≡ true → IsEntered l chosen u

-- the links hold what the first rows are woven to, and the other rows woven to that make the order of the blocks
pub record IsWovenThrough (l : Plain) (rows : List (List ℕ)) (names : List ℕ) (g : ℕ) (next : List ℕ) : Type 0 where
  pub order : List ℕ
  pub chain : IsChain next (length l.units) order (length l.units)
  pub so_far : IsWovenTo l rows names g order
  pub rest : woven_rows l names g order (drop g rows) ≡ block_order l rows names

-- what weaving all rows needs
pub record CanWeaveRows (l : Plain) (rows : List (List ℕ)) (into : List (Option ℕ)) (names : List ℕ) : Type 0 where
  pub chosen : List ℕ
  pub sound : IsSound l
  pub are_rows : AreRows l rows
  pub straight : AreStraight l rows chosen
  pub entries : AreEntries l chosen into
  pub named : AreNames l chosen names

-- the links hold this list, of numbers below the end, each once
pub record HoldList (next : List ℕ) (end : ℕ) (order : List ℕ) : Type 0 where
  pub chain : IsChain next end order end
  pub once : HasNoRepeat order
  pub below : (n : ℕ) → 1 ≤ occurs n order → n < end

-- the first elements were found, and the walk stands at the next one, or at the end
pub record IsWalked (order : List ℕ) (end : ℕ) (done at : ℕ) (found : List ℕ) : Type 0 where
  pub found_is : found ≡ take done order
  pub at_is : at ≡ slice_index_or order done end

-- where the walk stands after an element was looked at, and what it has found
abbrev pub WalksTo : List ℕ → ℕ → ℕ → List ℕ → ℕ → List ℕ → Type 0
WalksTo next end at found to found' =
    ((at ≡ end) × (to ≡ at) × (found' ≡ found)) ⊎ ((at ≢ end) × (to ≡ slice_index next at) × (found' ≡ found ++ at ∷ []))
