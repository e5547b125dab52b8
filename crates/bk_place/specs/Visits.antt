-- The rows that a sweep visits, in their order.
use Rattle.std.specs.Prelude.{ℕ, List, cond, drop, reverse}
use Rattle.drawing_types.specs.declared.sweep.Sweep.{Sweep}
use Rattle.drawing_types.specs.declared.sweep.Sweep.TheVariants.{LeftUp, LeftDown, RightUp, RightDown}
use Rattle.elk_layers.specs.Alignment.{goes_left}

abbrev pub rows_in_order : Sweep → List (List ℕ) → List (List ℕ)
rows_in_order sweep rows = cond (goes_left sweep) (drop 1 rows) (drop 1 (reverse rows))

-- the sweep to the same side that visits rows the other way round
abbrev pub flipped : Sweep → Sweep
flipped LeftUp = LeftDown
flipped LeftDown = LeftUp
flipped RightUp = RightDown
flipped RightDown = RightUp
