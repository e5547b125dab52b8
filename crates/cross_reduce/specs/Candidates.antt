-- Orders that a search keeps.
use Rattle.std.specs.Prelude.{◌≡◌, ◌<◌, ◌⊎◌, ℕ, List}
use Rattle.elk_layers.specs.Layered.{Plain, rows_of, AreRows}
use Rattle.elk_layers.specs.Crossings.{HasSameRows, NoBetterSwap, crossings}
use Rattle.cross_reduce.specs.declared.reducing.Counted.{Counted}

-- an order of the same rows, with the number of its crossings
pub record IsBestFrom (layered : Plain) (rows : List (List ℕ)) (kept : Counted) : Type 0 where
  pub are_rows : AreRows layered (rows_of kept.order)
  pub counted : kept.crossings ≡ crossings layered (rows_of kept.order)
  pub same : HasSameRows rows (rows_of kept.order)

-- the kept order, or one with fewer crossings
abbrev pub IsKeptOrFewer : Plain → List (List ℕ) → List (List ℕ) → Type 0
IsKeptOrFewer layered kept rows = (rows ≡ kept) ⊎ (crossings layered rows < crossings layered kept)

-- a settled order, the kept one or one with fewer crossings, with the number of its crossings
pub record IsSettledFrom (layered : Plain) (rows : List (List ℕ)) (kept : Counted) : Type 0 where
  pub best : IsBestFrom layered rows kept
  pub settled : NoBetterSwap layered (rows_of kept.order)
  pub fewer : IsKeptOrFewer layered rows (rows_of kept.order)
