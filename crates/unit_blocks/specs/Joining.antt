-- Names and offsets of units, given from left to right.
use Rattle.std.specs.Prelude.{◌≡◌, ℕ, ◌<◌, ◌^◌, ℤ, pos, ◌+ℤ◌, ◌-ℤ◌, ◌≤ℤ◌, cond, nat_le, zero, suc, ◌⊎◌, List, length, slice_index_or}
use Rattle.std.specs.Prelude.{slice_set, Option, Some, None}
use Rattle.std.specs.List.{All}
use Rattle.elk_layers.specs.Layered.{Plain, IsSound, link_at, layer_of, unit_at, place_of}
use Rattle.unit_blocks.specs.Blocks.{name_at, AreNames}
use Rattle.unit_blocks.specs.Entries.{AreLinksInto}
use Rattle.unit_blocks.specs.Constraints.{offset_at}
use Rattle.elk_layers.specs.Straight.{chosen_link, AreStraight}

-- a unit with a link into it has the name of the link's tail, another one its own
abbrev pub name_for : Plain → List ℕ → Option ℕ → ℕ → ℕ
name_for l names None u = u
name_for l names (Some k) u = name_at names (link_at l.links k).tail

-- and it stands so that the link is horizontal, or at 0
abbrev pub offset_for : Plain → List ℤ → Option ℕ → ℤ
offset_for l offsets None = pos 0
offset_for l offsets (Some k) =
    (offset_at offsets (link_at l.links k).tail +ℤ (link_at l.links k).tail_at) -ℤ (link_at l.links k).head_at

-- the unit has that name and that offset
pub record HasNameAndOffset (l : Plain) (into : List (Option ℕ)) (names : List ℕ) (offsets : List ℤ) (u : ℕ) : Type 0 where
  pub name_is : name_at names u ≡ name_for l names (slice_index_or into u None) u
  pub offset_is : offset_at offsets u ≡ offset_for l offsets (slice_index_or into u None)

-- the link is there, and a sum with its pins fits
pub record CanFollow (l : Plain) (offsets : List ℤ) (k : ℕ) : Type 0 where
  pub known : k < length l.links
  pub low : pos 0 ≤ℤ (offset_at offsets (link_at l.links k).tail +ℤ pos (2 ^ 57))
  pub high : offset_at offsets (link_at l.links k).tail ≤ℤ pos (2 ^ 57)

-- what giving a unit its name and offset writes
pub record Joins (l : Plain) (entry : Option ℕ) (u : ℕ) (names names' : List ℕ) (offsets offsets' : List ℤ) : Type 0 where
  pub name : names' ≡ slice_set names u (name_for l names entry u)
  pub offset : offsets' ≡ slice_set offsets u (offset_for l offsets entry)

-- names of blocks, and offsets at which the chosen links are horizontal
pub record NamesAndOffsets (l : Plain) (chosen names : List ℕ) (offsets : List ℤ) : Type 0 where
  pub named : AreNames l chosen names
  pub horizontal : (j : ℕ) → j < length chosen
      → offset_at offsets (chosen_link l chosen j).tail +ℤ (chosen_link l chosen j).tail_at
      ≡ offset_at offsets (chosen_link l chosen j).head +ℤ (chosen_link l chosen j).head_at

abbrev pub JoinedUnitsAreNamed : Type 0
JoinedUnitsAreNamed =
    (l : Plain) (rows : List (List ℕ)) (chosen : List ℕ) (into : List (Option ℕ)) (names : List ℕ) (offsets : List ℤ)
    → IsSound l → AreStraight l rows chosen → AreLinksInto l chosen (length chosen) into → length names ≡ length l.units
    → ((u : ℕ) → u < length l.units → HasNameAndOffset l into names offsets u) → NamesAndOffsets l chosen names offsets

-- the numbers of a step along a link
pub record FollowBounds (l : Plain) (offsets : List ℤ) (k : ℕ) : Type 0 where
  pub low : pos 0 ≤ℤ (offset_at offsets (link_at l.links k).tail +ℤ pos (2 ^ 57))
  pub high : offset_at offsets (link_at l.links k).tail ≤ℤ pos (2 ^ 57)
  pub tail_low : pos 0 ≤ℤ (link_at l.links k).tail_at
  pub tail_high : (link_at l.links k).tail_at ≤ℤ pos (2 ^ 56)
  pub head_low : pos 0 ≤ℤ (link_at l.links k).head_at
  pub head_high : (link_at l.links k).head_at ≤ℤ pos (2 ^ 56)

-- each entry is the number of a link that ends at the unit
pub record HaveHeads (l : Plain) (into : List (Option ℕ)) : Type 0 where
  pub as_many : length into ≡ length l.units
  pub known : (u k : ℕ) → slice_index_or into u None ≡ Some k → k < length l.links
  pub head_is : (u k : ℕ) → slice_index_or into u None ≡ Some k → (link_at l.links k).head ≡ u

-- the heights of the units together that lie in no layer right of this one
abbrev pub height_up_to : Plain → ℕ → ℕ → ℤ
height_up_to l g zero = pos 0
height_up_to l g (suc n) = height_up_to l g n +ℤ cond (nat_le (layer_of l n) g) (unit_at l.units n).height (pos 0)

-- from the block's first top to the unit's end, and from the unit's top to the first, there are at most the heights up to its layer
pub record StaysNear (l : Plain) (offsets : List ℤ) (u : ℕ) : Type 0 where
  pub low : pos 0 ≤ℤ (offset_at offsets u +ℤ height_up_to l (layer_of l u) (length l.units))
  pub high : (offset_at offsets u +ℤ (unit_at l.units u).height) ≤ℤ height_up_to l (layer_of l u) (length l.units)

-- the unit's layer is before this one, or it is this one, with the unit among the first of its row
abbrev pub ComesBefore : Plain → List (List ℕ) → ℕ → ℕ → ℕ → Type 0
ComesBefore l rows r i u = (layer_of l u < r) ⊎ ((layer_of l u ≡ r) × (place_of l rows u < i))

-- the units of the first layers, and the first of this row, are joined
pub record AreJoinedUpTo (l : Plain) (rows : List (List ℕ)) (into : List (Option ℕ)) (r i : ℕ) (names : List ℕ)
    (offsets : List ℤ) : Type 0 where
  pub names_long : length names ≡ length l.units
  pub offsets_long : length offsets ≡ length l.units
  pub in_range : All (λ n. n < length l.units) names
  pub joined : (u : ℕ) → u < length l.units → ComesBefore l rows r i u → HasNameAndOffset l into names offsets u
  pub near : (u : ℕ) → u < length l.units → ComesBefore l rows r i u → StaysNear l offsets u

-- all units are joined
pub record AreAllJoined (l : Plain) (into : List (Option ℕ)) (names : List ℕ) (offsets : List ℤ) : Type 0 where
  pub names_long : length names ≡ length l.units
  pub offsets_long : length offsets ≡ length l.units
  pub in_range : All (λ n. n < length l.units) names
  pub joined : (u : ℕ) → u < length l.units → HasNameAndOffset l into names offsets u
  pub near : (u : ℕ) → u < length l.units → StaysNear l offsets u
