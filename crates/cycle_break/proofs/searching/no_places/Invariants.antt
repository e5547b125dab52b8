use Rattle.std.proofs.Common.{◌≡◌}
use Rattle.cycle_break.proofs.Lists.{no_places}
use Rattle.cycle_break.proofs.searching.no_places.Given as goal

abbrev pub invariant-places : goal.invariant-places
invariant-places l = l.places.items ≡ no_places l.counter
