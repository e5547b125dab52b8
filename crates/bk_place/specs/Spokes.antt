-- The links of all units, by unit, then by the key of the far end, then by number.
use Rattle.std.specs.Prelude.{◌≡◌, ℕ, ◌+◌, ◌*◌, ◌^◌, ◌<◌, ◌≤◌, cond, not, List, map, length, slice_index, slice_index_or, Bool, ◌&&◌}
use Rattle.std.specs.Prelude.{nat_le, nat_lt}
use Rattle.std.specs.List.{range_with_len}
use Rattle.std.specs.List.Sorted.{IsNonDecreasingBy, IsPermutation}
use Rattle.drawing_types.specs.declared.sweep.Sweep.{Sweep}
use Rattle.elk_layers.specs.Layered.{Plain, link_at, is_lane}
use Rattle.elk_layers.specs.Alignment.{goes_left, near_end}
use Rattle.bk_place.specs.declared.spokes.Spoke.{Spoke}
use Rattle.bk_place.specs.Keys.{far_key_at}

-- a link as it is sorted
abbrev pub spoke_of : Plain → Sweep → List ℕ → ℕ → Spoke
spoke_of l sweep place k =
    record {
      key = near_end sweep (link_at l.links k) * 2 ^ 80 + (far_key_at place sweep (link_at l.links k) * 2 ^ 32 + k);
      number = k;
    }

abbrev pub numbers_of : List Spoke → List ℕ
numbers_of spokes = map (λ (s : Spoke). s.number) spokes

abbrev pub all_spokes : Plain → Sweep → List ℕ → List Spoke
all_spokes l sweep place = map (spoke_of l sweep place) (range_with_len 0 (length l.links))

-- the near end of a link is a lane
abbrev pub is_at_lane : Plain → Sweep → ℕ → Bool
is_at_lane l sweep k = cond (goes_left sweep) (is_lane l (link_at l.links k).head) (is_lane l (link_at l.links k).tail)

-- it is one, or it is none
abbrev pub is_at : Plain → Sweep → Bool → Spoke → Bool
is_at l sweep lanes s = cond lanes (is_at_lane l sweep s.number) (not (is_at_lane l sweep s.number))

-- all links, sorted
pub record AreSpokes (l : Plain) (sweep : Sweep) (place : List ℕ) (spokes : List Spoke) : Type 0 where
  pub same : IsPermutation (all_spokes l sweep place) spokes
  pub sorted : IsNonDecreasingBy (λ (s : Spoke). s.key) spokes

-- a link of this unit
abbrev pub is_of : ℕ → Spoke → Bool
is_of unit spoke = nat_le (unit * 2 ^ 80) spoke.key && nat_lt spoke.key ((unit + 1) * 2 ^ 80)

-- all links of earlier units stand before this place, and no others
pub record IsFirst (spokes : List Spoke) (unit at : ℕ) : Type 0 where
  pub bound : at ≤ length spokes
  pub before : (j : ℕ) (d : Spoke) → j < at → (slice_index_or spokes j d).key < unit * 2 ^ 80
  pub behind : (j : ℕ) (d : Spoke) → at ≤ j → j < length spokes → unit * 2 ^ 80 ≤ (slice_index_or spokes j d).key

-- by unit the place of its first link, and at the end the number of links
pub record AreFirsts (spokes : List Spoke) (units : ℕ) (firsts : List ℕ) : Type 0 where
  pub as_many : length firsts ≡ units + 1
  pub first_is : (u : ℕ) → u < length firsts → IsFirst spokes u (slice_index firsts u)
