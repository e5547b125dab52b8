-- Links that run beside one another.
use Rattle.std.specs.Prelude.{◌≡◌, ℕ, ◌<◌, List, length, slice_index, ◌⊎◌}
use Rattle.elk_layers.specs.declared.units.Link.{Link}
use Rattle.elk_layers.specs.Layered.{Plain, link_at, gap_of, place_of}

abbrev pub chosen_link : Plain → List ℕ → ℕ → Link
chosen_link l chosen j = link_at l.links (slice_index chosen j)

-- both ends of the first link lie strictly before those of the second, or both strictly after
abbrev pub RunsBeside : Plain → List (List ℕ) → Link → Link → Type 0
RunsBeside l rows a b =
    ((place_of l rows a.tail < place_of l rows b.tail) × (place_of l rows a.head < place_of l rows b.head))
    ⊎ ((place_of l rows b.tail < place_of l rows a.tail) × (place_of l rows b.head < place_of l rows a.head))

-- these are numbers of links, and of two in one gap neither crosses nor meets the other
pub record AreStraight (l : Plain) (rows : List (List ℕ)) (chosen : List ℕ) : Type 0 where
  pub known : (j : ℕ) → j < length chosen → slice_index chosen j < length l.links
  pub beside : (i j : ℕ) → i < j → j < length chosen
      → gap_of l (chosen_link l chosen i) ≡ gap_of l (chosen_link l chosen j)
      → RunsBeside l rows (chosen_link l chosen i) (chosen_link l chosen j)
