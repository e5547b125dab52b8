-- Links by their gap and the keys of their ends, and which of them cross.
use Rattle.std.specs.Prelude.{ℕ, ◌+◌, ◌*◌, ◌<◌, ◌≤◌, ◌==◌, List, map, length, slice_index, slice_index_or, Bool, ◌&&◌, nat_lt}
use Rattle.std.specs.List.{sum_by, count_by}
use Rattle.elk_layers.specs.declared.units.Link.{Link}
use Rattle.elk_layers.specs.Layered.{Plain, gap_of, tail_key, head_key}
use Rattle.cross_reduce.specs.declared.counting.LinkEnd.{LinkEnd}

abbrev pub pin_at : List LinkEnd → ℕ → LinkEnd
pin_at pins j = slice_index_or pins j (record { gap = 0; tail = 0; head = 0 })

abbrev pub pin_of : Plain → List (List ℕ) → Link → LinkEnd
pin_of layered rows l = record { gap = gap_of layered l; tail = tail_key layered rows l; head = head_key layered rows l }

-- the same, where a list has the places
abbrev pub pin_from : Plain → List ℕ → Link → LinkEnd
pin_from layered place l =
    record {
      gap = gap_of layered l;
      tail = slice_index place l.tail * 65536 + l.tail_rank;
      head = slice_index place l.head * 65536 + l.head_rank;
    }

abbrev pub pins_of : Plain → List (List ℕ) → List LinkEnd
pins_of layered rows = map (pin_of layered rows) layered.links

-- where a link begins: by gap, and in it by tail key
abbrev pub start_of : LinkEnd → ℕ
start_of p = p.gap * 4294967296 + p.tail

-- the first begins above the second in the same gap, and ends below it
abbrev pub is_under : LinkEnd → LinkEnd → Bool
is_under b a = (b.gap == a.gap) && (nat_lt b.tail a.tail && nat_lt a.head b.head)

-- the pairs of links of which one begins above the other and ends below it
abbrev pub crossed : List LinkEnd → ℕ
crossed pins = sum_by (λ a. count_by (λ b. is_under b a) pins) pins

-- the key of the tail has 32 bits
abbrev pub HasSmallTail : LinkEnd → Type 0
HasSmallTail p = p.tail < 4294967296

-- so many pins begin before a place, and stand first
pub record IsBegin (pins : List LinkEnd) (place count : ℕ) : Type 0 where
  pub bound : count ≤ length pins
  pub before : (j : ℕ) → j < count → start_of (pin_at pins j) < place
  pub behind : (j : ℕ) → count ≤ j → j < length pins → place ≤ start_of (pin_at pins j)

-- of the head keys from one place to before another, none is greater
abbrev pub EndsBelow : List ℕ → ℕ → ℕ → ℕ → Type 0
EndsBelow heads first end highest = (j : ℕ) → first ≤ j → j < end → slice_index heads j ≤ highest
