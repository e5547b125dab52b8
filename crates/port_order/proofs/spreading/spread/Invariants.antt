use Rattle.std.proofs.Common.{◌≡◌, ◌<◌, ℕ, length, pos}
use Rattle.std.specs.Prelude.{slice_index_or}
use Rattle.port_order.specs.Places.{spread_at}
use Rattle.port_order.proofs.spreading.spread.Given as goal

abbrev pub invariant-loop-i : goal.invariant-loop-i
invariant-loop-i l = record { count : length l.offsets.items ≡ l.i; each : (j : ℕ) → j < l.i → slice_index_or l.offsets.items j (pos 0) ≡ spread_at l.fn.len l.fn.k j }
