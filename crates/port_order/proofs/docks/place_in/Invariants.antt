use Rattle.std.proofs.Common.{◌≡◌, ◌<◌, ◌+◌, ℕ, get_or, drop}
use Rattle.std.specs.Prelude.{◌≢◌}
use Rattle.port_order.specs.Places.{place_in}
use Rattle.port_order.proofs.docks.place_in.Given as goal

abbrev pub invariant-loop-place : goal.invariant-loop-place
invariant-loop-place l = record { found : place_in l.fn.order l.fn.number ≡ l.place + place_in (drop l.place l.fn.order) l.fn.number; none : (j : ℕ) → j < l.place → get_or l.fn.order j 0 ≢ l.fn.number }
