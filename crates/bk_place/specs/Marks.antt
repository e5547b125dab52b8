-- Links as points: where they begin and where they end, and which of them overtake one another.
use Rattle.std.specs.Prelude.{◌≡◌, ℕ, ◌+◌, ◌*◌, ◌-◌, ◌^◌, ◌<◌, ◌≤◌, List, map, length, slice_index, slice_index_or, Bool, false, not, ◌&&◌}
use Rattle.std.specs.Prelude.{◌||◌, nat_lt, ◌⊎◌}
use Rattle.std.specs.List.{All, filter, list_any}
use Rattle.std.specs.List.Sorted.{IsNonDecreasingBy, IsPermutation}
use Rattle.elk_layers.specs.declared.units.Link.{Link}
use Rattle.elk_layers.specs.Layered.{Plain, gap_of, link_at}
use Rattle.elk_layers.specs.Alignment.{is_inner, is_marked}
use Rattle.bk_place.specs.declared.reaching.LinkEnd.{LinkEnd}
use Rattle.bk_place.specs.Keys.{key_at}

abbrev pub pin_at : List LinkEnd → ℕ → LinkEnd
pin_at pins j = slice_index_or pins j (record { start = 0; finish = 0 })

-- a link begins and ends at the keys of its ends, those of later gaps behind those of earlier ones
abbrev pub pin_of : Plain → List ℕ → Link → LinkEnd
pin_of l place link =
    record {
      start = gap_of l link * 2 ^ 64 + key_at place link.tail link.tail_rank;
      finish = gap_of l link * 2 ^ 64 + key_at place link.head link.head_rank;
    }

abbrev pub inner_pins : Plain → List ℕ → List LinkEnd
inner_pins l place = map (pin_of l place) (filter (is_inner l) l.links)

-- the first begins before the second and ends behind it
abbrev pub overtakes : LinkEnd → LinkEnd → Bool
overtakes other pin = nat_lt other.start pin.start && nat_lt pin.finish other.finish

-- the same seen from the other side: what ended behind now ends before
abbrev pub mirrored : LinkEnd → LinkEnd
mirrored pin = record { start = 2 ^ 100 - pin.start; finish = 2 ^ 100 - pin.finish }

abbrev pub IsLow : LinkEnd → Type 0
IsLow pin = (pin.start ≤ 2 ^ 100) × (pin.finish ≤ 2 ^ 100)

-- the greatest end among the first pins, or 0 where there are none
pub record IsHighest (pins : List LinkEnd) (count top : ℕ) : Type 0 where
  pub above : (j : ℕ) → j < count → (pin_at pins j).finish ≤ top
  pub reached : (top ≡ 0) ⊎ ((j : ℕ) × (j < count) × ((pin_at pins j).finish ≡ top))

-- pins by where they begin, and how far the first of them reach
pub record IsReach (pins : List LinkEnd) (highest : List ℕ) : Type 0 where
  pub sorted : IsNonDecreasingBy (λ (p : LinkEnd). p.start) pins
  pub as_many : length highest ≡ length pins + 1
  pub highest_is : (count : ℕ) → count < length highest → IsHighest pins count (slice_index highest count)

-- the same pins in another order, and in another order seen from the other side
pub record HoldBoth (inner above below : List LinkEnd) : Type 0 where
  pub low : All IsLow inner
  pub as_above : IsPermutation inner above
  pub as_below : IsPermutation (map mirrored inner) below

-- a link that is not inner and overtakes an inner one, or is overtaken by one
abbrev pub is_crossed : Plain → List ℕ → Link → Bool
is_crossed l place link =
    not (is_inner l link)
    && list_any (λ other. overtakes other (pin_of l place link) || overtakes (pin_of l place link) other) (inner_pins l place)

-- the list says of each link whether it is marked
pub record AreMarkedLinks (l : Plain) (rows : List (List ℕ)) (marked : List Bool) : Type 0 where
  pub as_many : length marked ≡ length l.links
  pub mark_is : (k : ℕ) → k < length l.links → slice_index_or marked k false ≡ is_marked l rows (link_at l.links k)
