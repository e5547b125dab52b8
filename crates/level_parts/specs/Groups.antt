-- Numbers grouped by their keys, as they are collected.
use Rattle.std.specs.Prelude.{◌≡◌, ◌<◌, ℕ, List, [], Vec, length, map, slice_index_or}
use Rattle.std.specs.Global.{Global}
use Rattle.network_parts.specs.Divided.{nodes_to}
use Rattle.network_parts.specs.Dividing.{ArePlaces}
use Rattle.level_parts.specs.declared.grouping.Groups.{Groups}

abbrev pub lists_of : List (Vec ℕ Global) → List (List ℕ)
lists_of rows = map (λ row. row.items) rows

abbrev pub row_at : List (List ℕ) → ℕ → List ℕ
row_at rows k = slice_index_or rows k []

-- each row has those of the first n numbers whose key it is
abbrev pub HoldRows : List ℕ → ℕ → List (List ℕ) → Type 0
HoldRows keys n rows = (k : ℕ) → k < length rows → row_at rows k ≡ nodes_to keys k n

-- all numbers are in the rows of their keys, at these places
pub record AreGrouped (g : Groups) : Type 0 where
  pub rows : HoldRows g.keys.items (length g.keys.items) (lists_of g.rows.items)
  pub places : ArePlaces g.keys.items (length g.keys.items) g.places.items
