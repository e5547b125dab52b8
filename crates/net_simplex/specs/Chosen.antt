-- Of the edges looked at so far the one of least slack.
use Rattle.std.specs.Prelude.{◌≡◌, ℕ, ◌<◌, ◌≤◌, ℤ, pos, List, length, slice_index, Bool, true, false, Option, Some, None, ⊤, cond, int_lt}
use Rattle.std.specs.Prelude.{nat_lt}
use Rattle.network_laws.specs.Layering.{layer_of}
use Rattle.network_laws.specs.Linked.{is_marked}
use Rattle.net_simplex.specs.declared.choice.Choice.{Choice}

-- the choice is the number, with its size
abbrev pub Tells : (ℕ → ℕ) → Option ℕ → Option Choice → Type 0
Tells size None None = ⊤
Tells size None (Some c) = ⊥
Tells size (Some k) None = ⊥
Tells size (Some k) (Some c) = (c.edge ≡ k) × (c.slack ≡ pos (size k))

-- one more edge is looked at
abbrev pub better_of : Option Choice → ℕ → ℤ → Option Choice
better_of None edge slack = Some (record { edge = edge; slack = slack })
better_of (Some best) edge slack = cond (int_lt slack best.slack) (Some (record { edge = edge; slack = slack })) (Some best)

-- the lower number, where the new one counts
abbrev pub lower_of : Option ℕ → ℕ → Bool → Option ℕ
lower_of lowest number false = lowest
lower_of None number true = Some number
lower_of (Some old) number true = cond (nat_lt number old) (Some number) (Some old)

-- the lowest-numbered edge of negative cut value on which a node of 1 to i - 1 hangs
abbrev pub IsLowest : List Bool → List ℕ → List ℤ → ℕ → Option ℕ → Type 0
IsLowest tree parent cut i None =
    (v : ℕ) → 0 < v → v < i → int_lt (layer_of cut (slice_index parent v)) (pos 0) ≡ false
IsLowest tree parent cut i (Some k) =
    (k < length tree)
    × (is_marked tree k ≡ true)
    × (int_lt (layer_of cut k) (pos 0) ≡ true)
    × ((v : ℕ) → 0 < v → v < i → int_lt (layer_of cut (slice_index parent v)) (pos 0) ≡ true → k ≤ slice_index parent v)
