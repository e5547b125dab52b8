-- The visits, where the place of the last far end is kept for each layer.
use Rattle.std.specs.Prelude.{◌≡◌, ℕ, ◌==◌, List, [], ◌∷◌, ◌++◌, length, slice_index, slice_index_or, slice_set, Bool, true, false, not}
use Rattle.std.specs.Prelude.{◌&&◌, ◌||◌, Option, Some, None}
use Rattle.std.specs.List.{list_all}
use Rattle.drawing_types.specs.declared.sweep.Sweep.{Sweep}
use Rattle.elk_layers.specs.declared.units.Link.{Link}
use Rattle.elk_layers.specs.Layered.{Plain, link_at, layer_of, IsSound, AreRows}
use Rattle.elk_layers.specs.Alignment.{goes_up, near_end, far_end, far_place, is_beyond, medians_in, first_of}
use Rattle.elk_layers.specs.Places.{ArePlaces}
use Rattle.bk_place.specs.declared.spokes.Spoke.{Spoke}
use Rattle.bk_place.specs.Marks.{AreMarkedLinks}
use Rattle.bk_place.specs.Spokes.{AreSpokes}

-- a far place beyond the last one, if there is one
abbrev pub is_past : Sweep → Option ℕ → ℕ → Bool
is_past sweep None here = true
is_past sweep (Some other) here = is_beyond sweep here other

abbrev pub can_choose : Sweep → List Link → List ℕ → List Bool → Option ℕ → ℕ → Bool
can_choose sweep links place marked last k =
    not (slice_index_or marked k false) && is_past sweep last (slice_index place (far_end sweep (link_at links k)))

abbrev pub as_list : Option ℕ → List ℕ
as_list None = []
as_list (Some k) = k ∷ []

-- what a visit chooses among a unit's links
abbrev pub choice : Sweep → List Link → List ℕ → List Bool → Option ℕ → List ℕ → List ℕ
choice sweep links place marked last fan = first_of (can_choose sweep links place marked last) (medians_in (goes_up sweep) fan)

abbrev pub last_at : List (Option ℕ) → ℕ → Option ℕ
last_at last g = slice_index_or last g None

-- the layer of a link's near end
abbrev pub near_layer : Plain → Sweep → ℕ → ℕ
near_layer l sweep k = layer_of l (near_end sweep (link_at l.links k))

-- a place is past the last one of a layer exactly where it is beyond all far places of the links chosen there
pub record AreLast (l : Plain) (rows : List (List ℕ)) (sweep : Sweep) (chosen : List ℕ) (last : List (Option ℕ)) : Type 0 where
  pub as_many : length last ≡ l.layers
  pub past : (g here : ℕ) → is_past sweep (last_at last g) here
      ≡ list_all (λ j. not (near_layer l sweep j == g) || is_beyond sweep here (far_place l rows sweep (link_at l.links j))) chosen

-- the places of the units of an order, and which links are marked in it
pub record IsMarked (l : Plain) (rows : List (List ℕ)) (place : List ℕ) (marked : List Bool) : Type 0 where
  pub places : ArePlaces l rows place
  pub marks : AreMarkedLinks l rows marked

-- what the visits need
pub record CanVisit (l : Plain) (rows : List (List ℕ)) (sweep : Sweep) (place : List ℕ) (marked : List Bool)
    (spokes : List Spoke) : Type 0 where
  pub sound : IsSound l
  pub are_rows : AreRows l rows
  pub places : ArePlaces l rows place
  pub marks : AreMarkedLinks l rows marked
  pub spokes_are : AreSpokes l sweep place spokes

-- the list of chosen links and the last places after a visit of a unit with this fan
pub record VisitsTo (l : Plain) (sweep : Sweep) (place : List ℕ) (marked : List Bool) (fan : List ℕ) (layer : ℕ)
    (chosen chosen' : List ℕ) (last last' : List (Option ℕ)) : Type 0 where
  pub found : Option ℕ
  pub choice_is : as_list found ≡ choice sweep l.links place marked (last_at last layer) fan
  pub chosen_is : chosen' ≡ chosen ++ as_list found
  pub last_is : (found ≡ None → last' ≡ last)
  pub noted : (k : ℕ) → found ≡ Some k → last' ≡ slice_set last layer (Some (slice_index place (far_end sweep (link_at l.links k))))
