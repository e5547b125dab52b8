-- Crossings of links, and orders that no exchange of two neighbours makes better.
use Rattle.std.specs.Prelude.{◌≡◌, ℕ, ◌+◌, ◌<◌, ◌≤◌, ◌==◌, List, [], ◌∷◌, length, Bool, ◌&&◌, ◌||◌, nat_lt, slice_set}
use Rattle.std.specs.List.{swap, count_by}
use Rattle.std.specs.List.Sorted.{IsPermutation}
use Rattle.elk_layers.specs.declared.units.Link.{Link}
use Rattle.elk_layers.specs.Layered.{Plain, row_at, gap_of, tail_key, head_key}

-- two links of one gap, of which one begins further up and ends further down
abbrev pub cross : Plain → List (List ℕ) → Link → Link → Bool
cross layered rows a b =
    (gap_of layered a == gap_of layered b)
    && ((nat_lt (tail_key layered rows a) (tail_key layered rows b) && nat_lt (head_key layered rows b) (head_key layered rows a))
    || (nat_lt (tail_key layered rows b) (tail_key layered rows a) && nat_lt (head_key layered rows a) (head_key layered rows b)))

-- the pairs of these links that cross
abbrev pub crossings_among : Plain → List (List ℕ) → List Link → ℕ
crossings_among layered rows [] = 0
crossings_among layered rows (a ∷ links) = count_by (cross layered rows a) links + crossings_among layered rows links

abbrev pub crossings : Plain → List (List ℕ) → ℕ
crossings layered rows = crossings_among layered rows layered.links

-- the rows with two neighbours of one row exchanged
abbrev pub exchanged : List (List ℕ) → ℕ → ℕ → List (List ℕ)
exchanged rows r i = slice_set rows r (swap (row_at rows r) i (i + 1))

-- no exchange of two neighbours of a row lowers the crossings
abbrev pub NoBetterSwap : Plain → List (List ℕ) → Type 0
NoBetterSwap layered rows =
    (r i : ℕ) → r < length rows → i + 1 < length (row_at rows r) → crossings layered rows ≤ crossings layered (exchanged rows r i)

-- the second order has the rows of the first, each in some order
pub record HasSameRows (rows rows' : List (List ℕ)) : Type 0 where
  pub as_many : length rows' ≡ length rows
  pub permuted : (r : ℕ) → r < length rows → IsPermutation (row_at rows r) (row_at rows' r)
