-- The pairs of units that keep a distance in an order's rows.
use Rattle.std.specs.Prelude.{◌≡◌, ℕ, ◌<◌, cond, ℤ, List, [], ◌∷◌, ◌++◌, length, Bool, true, false}
use Rattle.std.specs.List.{filter}
use Rattle.elk_layers.specs.Layered.{Plain, is_child}
use Rattle.elk_layers.specs.Lines.{room, body_room}
use Rattle.ns_place.specs.declared.least.PairFlow.{PairFlow}

abbrev pub pair_of : Bool → ℕ → ℕ → PairFlow
pair_of body u v = record { upper = u; lower = v; body = body; flow = 0 }

-- each unit of a list with the next one
abbrev pub neighbours : Bool → List ℕ → List PairFlow
neighbours body [] = []
neighbours body (u ∷ []) = []
neighbours body (u ∷ v ∷ us) = pair_of body u v ∷ neighbours body (v ∷ us)

-- the neighbours of a row, and then its consecutive children
abbrev pub row_pairs : Plain → List ℕ → List PairFlow
row_pairs l row = neighbours false row ++ neighbours true (filter (is_child l) row)

abbrev pub all_pairs : Plain → List (List ℕ) → List PairFlow
all_pairs l [] = []
all_pairs l (row ∷ rows) = row_pairs l row ++ all_pairs l rows

-- from top to top, what the two units keep
abbrev pub distance : Plain → PairFlow → ℤ
distance l p = cond p.body (body_room l p.upper p.lower) (room l p.upper p.lower)

-- two units, and two children where their outlines are to be apart
pub record IsPair (l : Plain) (p : PairFlow) : Type 0 where
  pub upper_is : p.upper < length l.units
  pub lower_is : p.lower < length l.units
  pub children : p.body ≡ true → (is_child l p.upper ≡ true) × (is_child l p.lower ≡ true)
