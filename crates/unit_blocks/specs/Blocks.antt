-- Blocks of units that chosen links join, and an order of the blocks in which each row goes forward.
use Rattle.std.specs.Prelude.{◌≡◌, ℕ, ◌+◌, ◌<◌, ◌≤◌, List, [], ◌∷◌, length, Bool, nat_lt, slice_index, map, ◌⊎◌}
use Rattle.std.specs.List.{filter}
use Rattle.elk_layers.specs.Layered.{Plain, IsSound, AreRows, row_at, layer_of, place_in, is_child}
use Rattle.unit_blocks.specs.Weaving.{IsSublist, woven}
use Rattle.elk_layers.specs.Straight.{chosen_link, AreStraight}
use Rattle.elk_layers.specs.Occurring.{occurs, HasNoRepeat}

abbrev pub name_at : List ℕ → ℕ → ℕ
name_at names u = slice_index names u

-- a chosen link ends at the unit
pub record IsEntered (l : Plain) (chosen : List ℕ) (u : ℕ) : Type 0 where
  pub number : ℕ
  pub within : number < length chosen
  pub head_is : (chosen_link l chosen number).head ≡ u

-- units that a chosen link joins have one name, and a unit that none enters is the name itself; so a block
-- is named by its leftmost unit
pub record AreNames (l : Plain) (chosen : List ℕ) (names : List ℕ) : Type 0 where
  pub as_many : length names ≡ length l.units
  pub joined : (j : ℕ) → j < length chosen → name_at names (chosen_link l chosen j).tail ≡ name_at names (chosen_link l chosen j).head
  pub first : (u : ℕ) → u < length l.units → (name_at names u ≡ u) ⊎ IsEntered l chosen u

-- the names of a row's blocks
abbrev pub names_of : List ℕ → List ℕ → List ℕ
names_of names row = map (name_at names) row

-- a unit of a layer before this one
abbrev pub is_before : Plain → ℕ → ℕ → Bool
is_before l g n = nat_lt (layer_of l n) g

-- the rows woven together from left to right, the first of these being that of the given layer
abbrev pub woven_rows : Plain → List ℕ → ℕ → List ℕ → List (List ℕ) → List ℕ
woven_rows l names g order [] = order
woven_rows l names g order (row ∷ rows) = woven_rows l names (g + 1) (woven (is_before l g) order (names_of names row)) rows

abbrev pub block_order : Plain → List (List ℕ) → List ℕ → List ℕ
block_order l rows names = woven_rows l names 0 [] rows

-- along the list, each block stands before the next in the order
abbrev pub GoesForward : List ℕ → List ℕ → List ℕ → Type 0
GoesForward names order units =
    (i : ℕ) → i + 1 < length units
    → place_in order (name_at names (slice_index units i)) < place_in order (name_at names (slice_index units (i + 1)))

-- an order of the blocks, each once, in which the units and the children of each row go forward
pub record IsBlockOrder (l : Plain) (rows : List (List ℕ)) (names order : List ℕ) : Type 0 where
  pub no_repeat : HasNoRepeat order
  pub own : (n : ℕ) → 1 ≤ occurs n order → (n < length l.units) × (name_at names n ≡ n)
  pub rows_kept : (r : ℕ) → r < length rows → IsSublist (names_of names (row_at rows r)) order
  pub units : (r : ℕ) → r < length rows → GoesForward names order (row_at rows r)
  pub children : (r : ℕ) → r < length rows → GoesForward names order (filter (is_child l) (row_at rows r))

-- each unit's block by its place in the order
pub record AreBlockNumbers (l : Plain) (names order blocks : List ℕ) : Type 0 where
  pub as_many : length blocks ≡ length l.units
  pub number_is : (u : ℕ) → u < length l.units → slice_index blocks u ≡ place_in order (name_at names u)

-- what the rows before a layer have been woven to
pub record IsWovenTo (l : Plain) (rows : List (List ℕ)) (names : List ℕ) (g : ℕ) (order : List ℕ) : Type 0 where
  pub once : HasNoRepeat order
  pub below : (n : ℕ) → 1 ≤ occurs n order → layer_of l n < g
  pub own : (n : ℕ) → 1 ≤ occurs n order → (n < length l.units) × (name_at names n ≡ n)
  pub previous : (p : ℕ) → g ≡ p + 1 → IsSublist (names_of names (row_at rows p)) order

-- the blocks of links that neither cross nor meet have such an order
abbrev pub BlocksHaveOrder : Type 0
BlocksHaveOrder =
    (l : Plain) (rows : List (List ℕ)) (chosen names : List ℕ) → IsSound l → AreRows l rows → AreStraight l rows chosen
    → AreNames l chosen names → IsBlockOrder l rows names (block_order l rows names)
