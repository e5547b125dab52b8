use Rattle.std.proofs.Common.{◌≡◌, ℕ, [], length, slice_index}
use Rattle.network_parts.specs.Dividing.{row_at, rows_of, sizes_of}
use Rattle.network_parts.proofs.dividing.empty_networks.Given as goal

abbrev pub invariant-loop : goal.invariant-loop
invariant-loop l =
    (length l.networks.items ≡ l.counter)
    × ((k : ℕ) → slice_index (sizes_of l.networks.items) k ≡ 0)
    × ((k : ℕ) → row_at (rows_of l.networks.items) k ≡ [])
