-- The members that are written, or removed.
use Rattle.std.specs.Prelude.{ℕ, List, [], ◌∷◌, codes, Bool, ◌||◌, ◌&&◌, bytes_eq, if◌then◌else◌}
use Rattle.std.specs.List.{list_any}

abbrev pub is_among : List (List ℕ) → List ℕ → Bool
is_among keys k = list_any (bytes_eq k) keys

abbrev pub place_keys : List (List ℕ)
place_keys = codes "x" ∷ codes "y" ∷ []

abbrev pub size_keys : List (List ℕ)
size_keys = codes "width" ∷ codes "height" ∷ codes "layering" ∷ []

abbrev pub route_keys : List (List ℕ)
route_keys = codes "sections" ∷ codes "bendPoints" ∷ codes "junctionPoints" ∷ codes "sourcePoint" ∷ codes "targetPoint" ∷ []

-- of a node: its place, and what a level writes
abbrev pub is_node_key : Bool → List ℕ → Bool
is_node_key compound k = is_among place_keys k || (compound && is_among size_keys k)

-- of a port or an edge
abbrev pub is_flat_key : Bool → List ℕ → Bool
is_flat_key edge k = if edge then is_among route_keys k else is_among place_keys k
