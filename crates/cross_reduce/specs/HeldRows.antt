-- How the held units of a row are put in order.
use Rattle.std.specs.Prelude.{ℕ, ℤ, List, map, Option}
use Rattle.std.specs.List.{filter}
use Rattle.elk_layers.specs.Sweeps.{refilled}
use Rattle.cross_reduce.specs.declared.holding.HeldUnit.{HeldUnit}
use Rattle.cross_reduce.specs.Held.{is_held, key_of}

-- a unit with its key
abbrev pub held_unit : List (Option ℤ) → ℕ → HeldUnit
held_unit held u = record { unit = u; key = key_of held u }

-- the held units of a row, as they stand there
abbrev pub held_units : List (Option ℤ) → List ℕ → List HeldUnit
held_units held row = map (held_unit held) (filter (is_held held) row)

abbrev pub numbers_of : List HeldUnit → List ℕ
numbers_of units = map (λ h. h.unit) units

-- a row with the places of its held units filled from a list
abbrev pub refilled_held : List (Option ℤ) → List ℕ → List HeldUnit → List ℕ
refilled_held held row units = refilled (is_held held) row (numbers_of units)
