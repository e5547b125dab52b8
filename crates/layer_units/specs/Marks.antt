-- The edges that marks say are reversed, as a list.
use Rattle.std.specs.Prelude.{ℕ, Bool, false, List, length, slice_index_or}
use Rattle.std.specs.List.{filter, range_with_len}

-- whether an edge is marked, and the list of the marked ones
abbrev pub is_marked : List Bool → ℕ → Bool
is_marked marks e = slice_index_or marks e false

abbrev pub listed_to : List Bool → ℕ → List ℕ
listed_to marks n = filter (is_marked marks) (range_with_len 0 n)

abbrev pub listed : List Bool → List ℕ
listed marks = listed_to marks (length marks)
