-- Which levels have edges.
use Rattle.std.specs.Prelude.{◌≡◌, ℕ, ◌<◌, List, length, slice_index_or, Bool, false, ◌&&◌, nat_eq, Some}
use Rattle.std.specs.Option.{option_eq}
use Rattle.std.specs.List.{list_any}
use Rattle.elk_json.specs.Elements.{Element}
use Rattle.elk_json.specs.Members.{is_edge}
use Rattle.elk_json.specs.Ends.{level_of_edge}

-- among some elements of a list, an edge of the level of the node at the place
abbrev pub has_level_edge : List Element → ℕ → List Element → Bool
has_level_edge es place among = list_any (λ f. is_edge f && option_eq nat_eq (level_of_edge es f.value) (Some place)) among

-- a mark at each place whose level has an edge, and at no other
abbrev pub AreMarkedElements : List Element → List Bool → Type 0
AreMarkedElements es marks = (place : ℕ) → place < length es → slice_index_or marks place false ≡ has_level_edge es place es
