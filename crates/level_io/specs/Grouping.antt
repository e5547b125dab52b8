-- Numbers in groups by their keys.
use Rattle.std.specs.Prelude.{◌≡◌, ℕ, ◌<◌, Bool, List, [], map, Vec, Option, None, Some, length, slice_index, slice_index_or}
use Rattle.std.specs.declared.alloc.Global.{Global}
use Rattle.elk_doc.specs.Level.{is_number}
use Rattle.elk_doc.specs.Numbers.{numbers_below, count_below}
use Rattle.level_io.specs.declared.grouping.Groups.{Groups}

-- the key of a number, and whether it names this group
abbrev pub key_at : List (Option ℕ) → ℕ → Option ℕ
key_at keys i = slice_index_or keys i None

abbrev pub is_in : List (Option ℕ) → ℕ → ℕ → Bool
is_in keys group i = is_number (key_at keys i) group

-- groups as lists
abbrev pub rows_in : List (Vec ℕ Global) → List (List ℕ)
rows_in rows = map (λ row. row.items) rows

abbrev pub row_at : List (List ℕ) → ℕ → List ℕ
row_at rows group = slice_index_or rows group []

-- each group has those of the numbers below n that are in it
abbrev pub AreGrouped : List (Option ℕ) → ℕ → List (List ℕ) → Type 0
AreGrouped keys n rows = (k : ℕ) → k < length rows → row_at rows k ≡ numbers_below (is_in keys k) n

-- each number below n that has a group has its place there
pub record ArePlacesIn (keys : List (Option ℕ)) (n : ℕ) (places : List ℕ) : Type 0 where
  pub as_many : length places ≡ n
  pub each : (i k : ℕ) → i < n → key_at keys i ≡ Some k → slice_index places i ≡ count_below (is_in keys k) i

-- so many groups, with all numbers that have a key
pub record IsGrouping (keys : List (Option ℕ)) (count : ℕ) (g : Groups) : Type 0 where
  pub as_many : length g.rows.items ≡ count
  pub rows : AreGrouped keys (length keys) (rows_in g.rows.items)
  pub placed : ArePlacesIn keys (length keys) g.places.items
