-- Rows in the order of numbers.
use Rattle.std.specs.Prelude.{◌≡◌, ℕ, ◌<◌, ◌==◌, List, Vec, length, map}
use Rattle.std.specs.List.{filter, range_with_len}
use Rattle.std.specs.declared.alloc.Global.{Global}
use Rattle.elk_layers.specs.declared.units.Unit.{Unit as LayerUnit}
use Rattle.elk_layers.specs.Layered.{row_at, unit_at}

-- the first n units that lie in a layer, in ascending order
abbrev pub row_to : List LayerUnit → ℕ → ℕ → List ℕ
row_to units r n = filter (λ u. (unit_at units u).layer == r) (range_with_len 0 n)

-- each row has the first n units of its layer in ascending order
pub record AreAscending (units : List LayerUnit) (count n : ℕ) (rows : List (List ℕ)) : Type 0 where
  pub as_many : length rows ≡ count
  pub each : (r : ℕ) → r < count → row_at rows r ≡ row_to units r n

abbrev pub plain_rows : List (Vec ℕ Global) → List (List ℕ)
plain_rows rows = map (λ row. row.items) rows
