-- By unit, the medians that the sweeps try.
use Rattle.std.specs.Prelude.{◌≡◌, ℕ, ◌-◌, ◌/◌, cond, List, [], ◌∷◌, ◌++◌, map, length, slice_index, slice_index_or, slice_set, Bool, false}
use Rattle.std.specs.Prelude.{Option, Some, None}
use Rattle.std.specs.List.{filter, range_with_len}
use Rattle.drawing_types.specs.declared.sweep.Sweep.{Sweep}
use Rattle.elk_layers.specs.declared.units.Link.{Link}
use Rattle.elk_layers.specs.Layered.{Plain, link_at, layer_of}
use Rattle.elk_layers.specs.Alignment.{goes_up, far_end}
use Rattle.bk_place.specs.declared.medians.Median.{Median}
use Rattle.bk_place.specs.declared.medians.Medians.{Medians}
use Rattle.bk_place.specs.declared.spokes.Spoke.{Spoke}
use Rattle.bk_place.specs.Choosing.{as_list, is_past, last_at, CanVisit}
use Rattle.bk_place.specs.Visits.{flipped}
use Rattle.bk_place.specs.Spokes.{numbers_of, is_of}

-- a link with the place of its far end, if it isn't marked
abbrev pub median_for : Sweep → List Link → List ℕ → List Bool → ℕ → Option Median
median_for sweep links place marked k =
    cond (slice_index_or marked k false) None (Some (record { number = k; place = slice_index place (far_end sweep (link_at links k)) }))

abbrev pub medians_with : ℕ → Option Median → Option Median → Medians
medians_with layer low high = record { layer = layer; low = low; high = high }

-- the medians of a unit in a layer with these links
abbrev pub medians_for : Sweep → List Link → List ℕ → List Bool → ℕ → List ℕ → Medians
medians_for sweep links place marked layer [] = medians_with layer None None
medians_for sweep links place marked layer (k ∷ ks) =
    medians_with layer
    (median_for sweep links place marked (slice_index (k ∷ ks) ((length (k ∷ ks) - 1) / 2)))
    (median_for sweep links place marked (slice_index (k ∷ ks) (length (k ∷ ks) / 2)))

abbrev pub medians_at : Plain → Sweep → List ℕ → List Bool → List Spoke → ℕ → Medians
medians_at l sweep place marked spokes u = medians_for sweep l.links place marked (layer_of l u) (numbers_of (filter (is_of u) spokes))

-- a median whose far end lies beyond the last one
abbrev pub is_open : Sweep → Option ℕ → Option Median → Bool
is_open sweep last None = false
is_open sweep last (Some m) = is_past sweep last m.place

-- the first of two that is so
abbrev pub first_open : Sweep → Option ℕ → Option Median → Option Median → Option Median
first_open sweep last a b = cond (is_open sweep last a) a (cond (is_open sweep last b) b None)

-- what a visit takes
abbrev pub taken : Sweep → Option ℕ → Medians → Option Median
taken sweep last m = cond (goes_up sweep) (first_open sweep last m.low m.high) (first_open sweep last m.high m.low)

abbrev pub number_of : Option Median → Option ℕ
number_of None = None
number_of (Some m) = Some m.number

-- the last places after a median was taken
abbrev pub last_after : List (Option ℕ) → ℕ → Option Median → List (Option ℕ)
last_after last layer None = last
last_after last layer (Some m) = slice_set last layer (Some m.place)

-- the list of chosen links and the last places after a visit of a unit with these medians
pub record Takes (sweep : Sweep) (medians : Medians) (chosen chosen' : List ℕ) (last last' : List (Option ℕ)) : Type 0 where
  pub chosen_is : chosen' ≡ chosen ++ as_list (number_of (taken sweep (last_at last medians.layer) medians))
  pub last_is : last' ≡ last_after last medians.layer (taken sweep (last_at last medians.layer) medians)

abbrev pub no_medians : Medians
no_medians = medians_with 0 None None

abbrev pub entry : List Medians → ℕ → Medians
entry table u = slice_index_or table u no_medians

-- by unit the medians of its links, in an order with these places and marks
pub record CanTake (l : Plain) (rows : List (List ℕ)) (sweep : Sweep) (table : List Medians) : Type 0 where
  pub place : List ℕ
  pub marked : List Bool
  pub spokes : List Spoke
  pub can : CanVisit l rows sweep place marked spokes
  pub table_is : table ≡ map (medians_at l sweep place marked spokes) (range_with_len 0 (length l.units))

-- the same for the other sweep to this side
abbrev pub ServesSide : Plain → List (List ℕ) → Sweep → List Medians → Type 0
ServesSide l rows sweep table = CanTake l rows sweep table × CanTake l rows (flipped sweep) table
