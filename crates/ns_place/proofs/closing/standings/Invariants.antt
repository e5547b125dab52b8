use Rattle.std.proofs.Common.{◌≡◌, ℕ, ◌<◌, length}
use Rattle.ns_place.specs.Closing.{standing_at, StandsFor}
use Rattle.ns_place.proofs.closing.standings.Given as goal

abbrev pub invariant-loop-u : goal.invariant-loop-u
invariant-loop-u l = (length l.all.items ≡ l.u) × ((u : ℕ) → u < l.u → StandsFor l.units l.layers l.spacing u (standing_at l.all.items u))
