-- The links of each unit to one side.
use Rattle.std.specs.Prelude.{◌≡◌, ℕ, ◌+◌, ◌*◌, ◌<◌, ◌==◌, List, [], map, length, slice_index, slice_index_or, nat_lt}
use Rattle.std.specs.List.{filter, sum_by, count_by}
use Rattle.elk_layers.specs.declared.units.Link.{Link}
use Rattle.cross_reduce.specs.declared.fans.Towards.{Towards}
use Rattle.cross_reduce.specs.declared.fans.Towards.TheVariants.{Left, Right}
use Rattle.cross_reduce.specs.declared.fans.Far.{Far}
use Rattle.cross_reduce.specs.declared.fans.Fans.{Fans}

-- the end from which a link leads to a side
abbrev pub near_unit : Towards → Link → ℕ
near_unit Left l = l.head
near_unit Right l = l.tail

-- the end to which it leads there
abbrev pub far_end : Towards → Link → Far
far_end Left l = record { unit = l.tail; rank = l.tail_rank }
far_end Right l = record { unit = l.head; rank = l.head_rank }

-- the far ends of a unit's links to a side
abbrev pub fan_of : Towards → List Link → ℕ → List Far
fan_of towards links u = map (far_end towards) (filter (λ l. near_unit towards l == u) links)

abbrev pub fan_lists : Fans → List (List Far)
fan_lists fans = map (λ v. v.items) fans.lists.items

abbrev pub fan_at : List (List Far) → ℕ → List Far
fan_at fans u = slice_index_or fans u []

-- for each unit the far ends of its links to a side
pub record AreFans (towards : Towards) (links : List Link) (count : ℕ) (fans : List (List Far)) : Type 0 where
  pub as_many : length fans ≡ count
  pub fan_is : (u : ℕ) → u < count → fan_at fans u ≡ fan_of towards links u

-- the key of a far end
abbrev pub far_key : List ℕ → Far → ℕ
far_key place far = slice_index place far.unit * 65536 + far.rank

abbrev pub far_keys : List ℕ → List Far → List ℕ
far_keys place fan = map (far_key place) fan

-- how many pairs of a key of the first list and a key of the second descend
abbrev pub descents : List ℕ → List ℕ → ℕ
descents upper lower = sum_by (λ y. count_by (λ x. nat_lt y x) upper) lower
